-- Rows of sorts: laws of what fits, and the members of an object so far.
-- Assumes nothing.
use mathlib.Core.Path.{◌≡◌, refl, sym, ap, subst, ◌∙◌}
use mathlib.Core.List.{List, [], ◌∷◌, ◌++◌, append_assoc, append-nil}
use Prim.Native.Nat.{ℕ, zero, suc, ◌+◌, ◌≤◌}
use native.Mathlib.Omega.{arith}
use lib.Dec.{T, eqb, eqb→eq}
use lib.ListN.{length}
use Rattle.lexemes.specs.Kinds.{LOCAL_KW, ASSERT_KW}
use Rattle.grammar.specs.Tags.{SLICE}
use Rattle.grammar.specs.Trees.{Field, byte, span}
use Rattle.grammar.specs.Productions.{with_field, with_assert, with_member}
use Rattle.grammar.specs.Words.{NameText}
use Rattle.grammar.specs.Records.{Sort, Is, Fits, times, Spans, First, Part, Rest, Form}

-- ── Rows of sorts ─────────────────────────────────────────────────────────────────────────────────

pub fits_append : {σs τs ws us : List Sort} → Fits σs ws → Fits τs us → Fits (σs ++ τs) (ws ++ us)
fits_append Fits.none g = g
fits_append (Fits.more i f) g = Fits.more i (fits_append f g)

pub fits-length : {σs ws : List Sort} → Fits σs ws → length σs ≡ length ws
fits-length Fits.none = refl
fits-length (Fits.more i f) = ap suc (fits-length f)

abbrev pub one : {σ : Sort} → Fits (σ ∷ []) (σ ∷ [])
one = Fits.more Is.itself Fits.none

-- What fits fits more widely.
pub wider : {σ τ : Sort} {σs ws : List Sort} → ((ρ : Sort) → Is ρ σ → Is ρ τ) → Fits σs (σ ∷ ws) → Fits σs (τ ∷ ws)
wider h (Fits.more {σ = ρ} i f) = Fits.more (h ρ i) f

pub as_expression : {σs ws : List Sort} → Fits σs (Sort.string ∷ ws) → Fits σs (Sort.expression ∷ ws)
as_expression f = wider (λ ρ i. by i) f
  where
    by : {ρ : Sort} → Is ρ Sort.string → Is ρ Sort.expression
    by Is.itself = Is.a_string

pub object-expression : {σs ws : List Sort} → Fits σs (Sort.object ∷ ws) → Fits σs (Sort.expression ∷ ws)
object-expression f = wider (λ ρ i. by i) f
  where
    by : {ρ : Sort} → Is ρ Sort.object → Is ρ Sort.expression
    by Is.itself = Is.an_object

pub first_fits : {f : ℕ} {σ : Sort} {σs ws : List Sort} → First f σ → Fits σs (σ ∷ ws) → Fits σs (Sort.expression ∷ ws)
first_fits First.first f = f
first_fits First.later f = wider (λ ρ i. by i) f
  where
    by : {ρ : Sort} → Is ρ Sort.run → Is ρ Sort.expression
    by Is.itself = Is.a_run

pub name_pattern_fits : {σs ws : List Sort} → Fits σs (Sort.name_pattern ∷ ws) → Fits σs (Sort.pattern ∷ ws)
name_pattern_fits f = wider (λ ρ i. by i) f
  where
    by : {ρ : Sort} → Is ρ Sort.name_pattern → Is ρ Sort.pattern
    by Is.itself = Is.a_name

pub iteration_clause : {σs ws : List Sort} → Fits σs (Sort.iteration ∷ ws) → Fits σs (Sort.clause ∷ ws)
iteration_clause f = wider (λ ρ i. by i) f
  where
    by : {ρ : Sort} → Is ρ Sort.iteration → Is ρ Sort.clause
    by Is.itself = Is.an_iteration

pub if_clause_clause : {σs ws : List Sort} → Fits σs (Sort.if_clause ∷ ws) → Fits σs (Sort.clause ∷ ws)
if_clause_clause f = wider (λ ρ i. by i) f
  where
    by : {ρ : Sort} → Is ρ Sort.if_clause → Is ρ Sort.clause
    by Is.itself = Is.an_if

pub times-length : (n : ℕ) (σ : Sort) → length (times n σ) ≡ n
unfolding times
times-length zero σ = refl
times-length (suc n) σ = ap suc (times-length n σ)

pub times_last : (n : ℕ) (σ : Sort) → times n σ ++ σ ∷ [] ≡ times (suc n) σ
unfolding times
times_last zero σ = refl
times_last (suc n) σ = ap (λ (l : List Sort). σ ∷ l) (times_last n σ)

-- One more at the end of a row, of a row behind others, of a row with nothing behind it.
pub fits_last : (n : ℕ) (σ : Sort) {σs τs : List Sort} (ws : List Sort) → Fits σs (ws ++ times n σ) → Fits τs (σ ∷ []) → Fits (σs ++ τs) (ws ++ times (suc n) σ)
fits_last n σ {σs} {τs} ws f g =
    subst (λ (l : List Sort). Fits (σs ++ τs) l) (append_assoc ws (times n σ) (σ ∷ []) ∙ ap (λ (l : List Sort). ws ++ l) (times_last n σ)) (fits_append f g)

pub fits_nil : {σs : List Sort} {ws : List Sort} → Fits σs ws → Fits σs (ws ++ [])
fits_nil {σs} {ws} f = subst (λ (l : List Sort). Fits σs l) (sym (append-nil ws)) f

pub fits-times : (σ : Sort) {σs : List Sort} (n k : ℕ) → n ≡ k → Fits σs (times n σ) → Fits σs (times k σ)
fits-times σ {σs} n k e f = subst (λ (m : ℕ). Fits σs (times m σ)) e f

-- How many there are.
pub count-times : (σ : Sort) {σs : List Sort} (n k : ℕ) → length σs ≡ k → Fits σs (times n σ) → n ≡ k
count-times σ n k e f = sym (times-length n σ) ∙ sym (fits-length f) ∙ e

pub 0≤1 : 0 ≤ 1
0≤1 = omega arith

pub 1≤1 : 1 ≤ 1
1≤1 = omega arith

pub 0≤2 : 0 ≤ 2
0≤2 = omega arith

pub 1≤2 : 1 ≤ 2
1≤2 = omega arith

pub 2≤2 : 2 ≤ 2
2≤2 = omega arith

-- A record with a count that is told otherwise.
pub told : {q : Spans} {σ : Sort} {tag : ℕ} {ws : List Sort} (fields : ℕ → List Field) (n k : ℕ) → n ≡ k → Form q σ tag (fields n) ws → Form q σ tag (fields k) ws
told {q} {σ} {tag} {ws} fields n k e f = subst (λ (m : ℕ). Form q σ tag (fields m) ws) e f

-- A part of a slice that is not there.
pub no_part : {weight : ℕ} → Part Spans.forward weight 0 0 0 []
no_part = Part.absent (refl, refl)

pub slice_form : {q : Spans} {b₁ i j b₂ k l b₃ x y : ℕ} {σs τs υs : List Sort} (b : ℕ) → Part q 1 b₁ i j σs → Part q 2 b₂ k l τs → Part q 4 b₃ x y υs
    → b₁ + b₂ + b₃ ≡ b
    → Form q Sort.expression SLICE (byte b ∷ span i j ∷ span k l ∷ span x y ∷ []) (Sort.expression ∷ (σs ++ τs) ++ υs)
slice_form {q} {b₁} {i} {j} {b₂} {k} {l} {b₃} {x} {y} b p p' p'' e = told (λ m. byte m ∷ span i j ∷ span k l ∷ span x y ∷ []) (b₁ + b₂ + b₃) b e (Form.r23 p p' p'')

-- ── Members and rests ─────────────────────────────────────────────────────────────────────────────

-- The members of an object so far, by the fault that a comprehension of them would have.
pub data Members : ℕ → List Sort → Type 0 where
  no_field : {σs : List Sort} (n : ℕ) → Fits σs (times n Sort.bind) → Members 4 σs
  one_field : {σs : List Sort} (a b : ℕ) → Fits σs (times a Sort.bind ++ Sort.field ∷ times b Sort.bind) → Members 0 σs
  two_fields : {σs : List Sort} (n : ℕ) → Fits σs (times n Sort.member) → Members 2 σs
  an_assert : {σs : List Sort} (n : ℕ) → Fits σs (times n Sort.member) → Members 3 σs

pub local_member : {σs ws : List Sort} → Fits σs (Sort.bind ∷ ws) → Fits σs (Sort.member ∷ ws)
local_member f = wider (λ ρ i. by i) f
  where
    by : {ρ : Sort} → Is ρ Sort.bind → Is ρ Sort.member
    by Is.itself = Is.a_local

pub field_member : {σs ws : List Sort} → Fits σs (Sort.field ∷ ws) → Fits σs (Sort.member ∷ ws)
field_member f = wider (λ ρ i. by i) f
  where
    by : {ρ : Sort} → Is ρ Sort.field → Is ρ Sort.member
    by Is.itself = Is.a_field

pub assertion_member : {σs ws : List Sort} → Fits σs (Sort.assertion ∷ ws) → Fits σs (Sort.member ∷ ws)
assertion_member f = wider (λ ρ i. by i) f
  where
    by : {ρ : Sort} → Is ρ Sort.assertion → Is ρ Sort.member
    by Is.itself = Is.an_assertion

pub binds_members : {σs : List Sort} (n : ℕ) → Fits σs (times n Sort.bind) → Fits σs (times n Sort.member)
unfolding times
binds_members zero f = f
binds_members (suc n) (Fits.more Is.itself f) = Fits.more Is.a_local (binds_members n f)

pub field_members : {σs : List Sort} (a b : ℕ) → Fits σs (times a Sort.bind ++ Sort.field ∷ times b Sort.bind) → Fits σs (times (a + suc b) Sort.member)
unfolding times
field_members zero b f = by f
  where
    by : {σs : List Sort} → Fits σs (Sort.field ∷ times b Sort.bind) → Fits σs (times (0 + suc b) Sort.member)
    by (Fits.more Is.itself g) = fits-times Sort.member (suc b) (0 + suc b) (omega arith) (Fits.more Is.a_field (binds_members b g))
field_members (suc a) b (Fits.more Is.itself f) = fits-times Sort.member (suc (a + suc b)) (suc a + suc b) (omega arith) (Fits.more Is.a_local (field_members a b f))

pub all_members : {c : ℕ} {σs : List Sort} → Members c σs → (n : ℕ) × Fits σs (times n Sort.member)
all_members (no_field n f) = (n, binds_members n f)
all_members (one_field a b f) = (a + suc b, field_members a b f)
all_members (two_fields n f) = (n, f)
all_members (an_assert n f) = (n, f)

pub add_bind : {c : ℕ} {σs τs : List Sort} → Members c σs → Fits τs (Sort.bind ∷ []) → Members c (σs ++ τs)
add_bind (no_field n f) g = no_field (suc n) (fits_last n Sort.bind [] f g)
add_bind (one_field a b f) g = one_field a (suc b) (by (fits_last b Sort.bind (times a Sort.bind ++ Sort.field ∷ []) (regroup f) g))
  where
    regroup : {σs : List Sort} → Fits σs (times a Sort.bind ++ Sort.field ∷ times b Sort.bind)
        → Fits σs ((times a Sort.bind ++ Sort.field ∷ []) ++ times b Sort.bind)
    regroup {σs} f = subst (λ (l : List Sort). Fits σs l) (sym (append_assoc (times a Sort.bind) (Sort.field ∷ []) (times b Sort.bind))) f

    by : {σs : List Sort} → Fits σs ((times a Sort.bind ++ Sort.field ∷ []) ++ times (suc b) Sort.bind)
        → Fits σs (times a Sort.bind ++ Sort.field ∷ times (suc b) Sort.bind)
    by {σs} f = subst (λ (l : List Sort). Fits σs l) (append_assoc (times a Sort.bind) (Sort.field ∷ []) (times (suc b) Sort.bind)) f
add_bind (two_fields n f) g = two_fields (suc n) (fits_last n Sort.member [] f (local_member g))
add_bind (an_assert n f) g = an_assert (suc n) (fits_last n Sort.member [] f (local_member g))

pub add_assert : {c : ℕ} {σs τs : List Sort} → Members c σs → Fits τs (Sort.assertion ∷ []) → Members (with_assert c) (σs ++ τs)
unfolding with_assert
add_assert (no_field n f) g = an_assert (suc n) (fits_last n Sort.member [] (binds_members n f) (assertion_member g))
add_assert (one_field a b f) g = an_assert (suc (a + suc b)) (fits_last (a + suc b) Sort.member [] (field_members a b f) (assertion_member g))
add_assert (two_fields n f) g = two_fields (suc n) (fits_last n Sort.member [] f (assertion_member g))
add_assert (an_assert n f) g = an_assert (suc n) (fits_last n Sort.member [] f (assertion_member g))

pub add_field : {c : ℕ} {σs τs : List Sort} → Members c σs → Fits τs (Sort.field ∷ []) → Members (with_field c) (σs ++ τs)
unfolding with_field times
add_field (no_field n f) g = one_field n 0 (fits_append f g)
add_field (one_field a b f) g = two_fields (suc (a + suc b)) (fits_last (a + suc b) Sort.member [] (field_members a b f) (field_member g))
add_field (two_fields n f) g = two_fields (suc n) (fits_last n Sort.member [] f (field_member g))
add_field (an_assert n f) g = an_assert (suc n) (fits_last n Sort.member [] f (field_member g))

-- A member that began at a kind, and what it is to those before it.
pub record MemberFrom (k : ℕ) (τs : List Sort) : Type 0 where
  pub fits : Fits τs (Sort.member ∷ [])
  pub adds : (c : ℕ) (σs : List Sort) → Members c σs → Members (with_member c k) (σs ++ τs)

pub bind_from : {k : ℕ} {τs : List Sort} → T (eqb k LOCAL_KW) → Fits τs (Sort.bind ∷ []) → MemberFrom k τs
unfolding with_member
bind_from {k} {τs} t f =
    record {
      fits = local_member f;
      adds = λ c σs m. subst (λ (j : ℕ). Members (with_member c j) (σs ++ τs)) (sym (eqb→eq k LOCAL_KW t)) (add_bind m f);
    }

pub assertion_from : {k : ℕ} {τs : List Sort} → T (eqb k ASSERT_KW) → Fits τs (Sort.assertion ∷ []) → MemberFrom k τs
unfolding with_member
assertion_from {k} {τs} t f =
    record {
      fits = assertion_member f;
      adds = λ c σs m. subst (λ (j : ℕ). Members (with_member c j) (σs ++ τs)) (sym (eqb→eq k ASSERT_KW t)) (add_assert m f);
    }

pub field_from : {k : ℕ} {τs : List Sort} → ((c : ℕ) → with_member c k ≡ with_field c) → Fits τs (Sort.field ∷ []) → MemberFrom k τs
field_from {k} {τs} e f =
    record { fits = field_member f; adds = λ c σs m. subst (λ (j : ℕ). Members j (σs ++ τs)) (sym (e c)) (add_field m f) }

pub next_is : (n : ℕ) → suc n ≡ n + 1
next_is n = omega arith

-- One argument more of a call.
pub add_named : (u n : ℕ) {σs τs : List Sort} → Fits σs ((Sort.expression ∷ times u Sort.expression) ++ times n Sort.named) → Fits τs (Sort.named ∷ [])
    → Fits (σs ++ τs) ((Sort.expression ∷ times u Sort.expression) ++ times (n + 1) Sort.named)
add_named u n {σs} {τs} f g =
    subst (λ (m : ℕ). Fits (σs ++ τs) ((Sort.expression ∷ times u Sort.expression) ++ times m Sort.named)) (next_is n)
    (fits_last n Sort.named (Sort.expression ∷ times u Sort.expression) f g)

pub add_unnamed : (u n : ℕ) {σs τs : List Sort} → n ≡ 0 → Fits σs ((Sort.expression ∷ times u Sort.expression) ++ times n Sort.named)
    → Fits τs (Sort.expression ∷ [])
    → Fits (σs ++ τs) ((Sort.expression ∷ times (u + 1) Sort.expression) ++ times n Sort.named)
unfolding times
add_unnamed u n {σs} {τs} e f g =
    let h : Fits σs (Sort.expression ∷ times u Sort.expression) =
    subst (λ (l : List Sort). Fits σs l) (append-nil (Sort.expression ∷ times u Sort.expression))
    (subst (λ (m : ℕ). Fits σs ((Sort.expression ∷ times u Sort.expression) ++ times m Sort.named)) e f) in
    subst (λ (m : ℕ). Fits (σs ++ τs) ((Sort.expression ∷ times (u + 1) Sort.expression) ++ times m Sort.named)) (sym e)
    (fits_nil (subst (λ (m : ℕ). Fits (σs ++ τs) (Sort.expression ∷ times m Sort.expression)) (next_is u) (fits_last u Sort.expression (Sort.expression ∷ []) h g)))

-- The rest of a pattern that has one.
pub data Open : ℕ → List ℕ → Type 0 where
  dropped : Open 1 []
  kept : {w : List ℕ} → NameText w → Open 2 w

pub open_rest : {r : ℕ} {w : List ℕ} (m : ℕ) → Open r w → Rest r m w
open_rest m dropped = Rest.dropped
open_rest m (kept h) = Rest.kept h

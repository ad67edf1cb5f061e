-- The definitions of specs/Inner.antt by the branches of the code that computes them.
-- Assumes nothing.
use mathlib.Core.Path.{◌≡◌, refl, sym, ap, subst, ◌∙◌}
use mathlib.Core.Bool.{Bool, true, false, cond, not, ◌&&◌, ◌||◌}
use mathlib.Core.List.{List, [], ◌∷◌}
use Prim.Native.Nat.{ℕ, zero, suc, ◌+◌, ◌-◌, ◌/◌, ◌%◌, ◌≤◌, ◌<◌}
use native.Mathlib.Omega.{arith}
use lib.Dec.{T, eqb}
use lib.ListN.{length, take, drop, get_or, length-drop}
use lib.Seq.{slice, take-nil, length-take-le}
use borrow.Author.Tests.{eqb-true, eqb-false, le-leb, lt-leb, eq-eqb, ne_eqb}
use Rattle.grammar.specs.Layout.{bits_in, layout_of, numbers}
use Rattle.grammar.specs.Tags.{INFIX}
use Rattle.grammar.proofs.LayoutLaws.{NoneOf}
use Rattle.images.specs.Inner.{BACKWARD, span_value, limit, told_by, unless, slice_fine, question, decoded, asks, row_of, rows, look, count_by, sort_by, text_by, fine_by, fines, is_a, code, sort_of, wide_code, dates, dated_row, onward, two_at, Question, Extends, tail_part, Worded}
use Rattle.images.specs.Inner.{coded, Asks, pick, forward, Gets}
use Rattle.images.specs.declared.asks.Question as asked
use Rattle.std.proofs.Common.{Option, None, Some}
use Rattle.std.specs.Option.{option_or, option_eq}
use Rattle.images.specs.declared.records.Age as ages
use Rattle.images.specs.Inner.{age_code}
use Rattle.std.specs.Bool.{then_some}
use Rattle.std.specs.List.{list_all}
use denote.Enum.Bare.{sameb}
use denote.Enum.Declared.{tag_of}
use Rattle.images.specs.contracts.sorts.Sort.{the_type}
use Rattle.images.specs.declared.sorts.Sort as sorts
use Rattle.images.specs.Inner.{sort_code}
use Rattle.blocks.specs.Inside.{Says}
use Rattle.strings.specs.Utf8.{Utf8}
use Rattle.grammar.specs.Words.{NameText, NumberText}
use Rattle.images.proofs.TableLaws.{all_among, look_none}
use Rattle.images.proofs.TextLaws.{same}

-- ── Parts ─────────────────────────────────────────────────────────────────────────────────────────

pub span_forward : (a e : ℕ) → a ≤ e → a + e ≡ span_value a e
unfolding span_value
span_forward a e h = rw (le-leb a e h)

pub span_backward : (a e : ℕ) → e < a → BACKWARD ≡ span_value a e
unfolding span_value
span_backward a e h = rw (lt-leb a e h)

pub limit-has : (c : ℕ) → c ≡ 4 → 2 ≡ limit c
unfolding limit
limit-has c e = rw (eq-eqb c 4 e)

pub limit_bits : (c : ℕ) → (c ≡ 4 → ⊥) → c ≡ 5 → 8 ≡ limit c
unfolding limit
limit_bits c n e = rw (ne_eqb c 4 n, eq-eqb c 5 e)

pub limit_other : (c : ℕ) → (c ≡ 4 → ⊥) → (c ≡ 5 → ⊥) → c - 8 ≡ limit c
unfolding limit
limit_other c n m = rw (ne_eqb c 4 n, ne_eqb c 5 m)

pub told_has : (c b : ℕ) → c ≡ 4 → b ≡ told_by c b
unfolding told_by
told_has c b e = rw (eq-eqb c 4 e)

pub told_bits : (c b : ℕ) → (c ≡ 4 → ⊥) → c ≡ 5 → bits_in b ≡ told_by c b
unfolding told_by
told_bits c b n e = rw (ne_eqb c 4 n, eq-eqb c 5 e)

pub told_other : (c b : ℕ) → (c ≡ 4 → ⊥) → (c ≡ 5 → ⊥) → 0 ≡ told_by c b
unfolding told_by
told_other c b n m = rw (ne_eqb c 4 n, ne_eqb c 5 m)

-- ── Questions ─────────────────────────────────────────────────────────────────────────────────────

pub slice_first : (b x y z : ℕ) → unless (b % 2) x ≡ false → false ≡ slice_fine b x y z
unfolding slice_fine
slice_first b x y z e = rw e

pub slice_second : (b x y z : ℕ) → unless (b % 2) x ≡ true → unless (b / 2 % 2) y ≡ false → false ≡ slice_fine b x y z
unfolding slice_fine
slice_second b x y z e f = rw (e, f)

pub slice_third : (b x y z : ℕ) → unless (b % 2) x ≡ true → unless (b / 2 % 2) y ≡ true → unless (b / 4 % 2) z ≡ slice_fine b x y z
unfolding slice_fine
slice_third b x y z e f = rw (e, f)

pub given_as : (f : Bool) {q p : Question} → q ≡ p
    → question f q.n1 q.s1 q.n2 q.s2 q.n3 q.s3 q.text q.size ≡ question f p.n1 p.s1 p.n2 p.s2 p.n3 p.s3 p.text p.size
given_as f e = ap (λ (q : Question). question f q.n1 q.s1 q.n2 q.s2 q.n3 q.s3 q.text q.size) e

pub named_as : (t z : ℕ) {q p : Question} → q ≡ p
    → question q.fine q.n1 q.s1 q.n2 q.s2 q.n3 q.s3 t z ≡ question p.fine p.n1 p.s1 p.n2 p.s2 p.n3 p.s3 t z
named_as t z e = ap (λ (q : Question). question q.fine q.n1 q.s1 q.n2 q.s2 q.n3 q.s3 t z) e

-- What a record of one of the tags asks, and one of none of them.
pub asks_tag : {tag : ℕ} (k : ℕ) (v : List ℕ) {q : Question} → tag ≡ k → q ≡ asks k v → q ≡ asks tag v
asks_tag k v e h = h ∙ sym (ap (λ (t : ℕ). asks t v) e)

pub asks_given : {tag : ℕ} (k : ℕ) (v : List ℕ) {r : Option asked.Question} (f : Bool) (q : asked.Question) → tag ≡ k → r ≡ then_some f q
    → question f (coded q).n1 (coded q).s1 (coded q).n2 (coded q).s2 (coded q).n3 (coded q).s3 (coded q).text (coded q).size ≡ asks k v → Asks (asks tag v) r
asks_given {tag} k v {r} f q t e h = subst (Asks (asks tag v)) (sym e) (by f h)
  where
    same_tag : asks k v ≡ asks tag v
    same_tag = sym (ap (λ (i : ℕ). asks i v) t)

    by : (b : Bool) → question b (coded q).n1 (coded q).s1 (coded q).n2 (coded q).s2 (coded q).n3 (coded q).s3 (coded q).text (coded q).size ≡ asks k v → Asks (asks tag v) (then_some b q)
    by true h = h ∙ same_tag
    by false h = sym (ap (λ (p : Question). p.fine) (h ∙ same_tag))

pub pick_zero : (b x y : ℕ) → b ≡ 0 → x ≡ pick b x y
unfolding pick
pick_zero b x y e = rw (eq-eqb b 0 e)

pub pick_other : (b x y : ℕ) → (b ≡ 0 → ⊥) → y ≡ pick b x y
unfolding pick
pick_other b x y n = rw (ne_eqb b 0 n)

pub asks_none : (tag : ℕ) (v ks : List ℕ) → T (all_among rows ks) → NoneOf tag ks → question false 0 0 0 0 0 0 0 0 ≡ asks tag v
unfolding asks row_of count_by sort_by text_by fine_by fines look
asks_none tag v ks h n = sym (ap (λ (r : List ℕ). decoded r v) (look_none (7 ∷ 0 ∷ 0 ∷ 0 ∷ 0 ∷ 0 ∷ 0 ∷ 0 ∷ 0 ∷ []) tag ks rows h n))

-- ── Sorts ─────────────────────────────────────────────────────────────────────────────────────────

-- The numbers are the tags of the enum.
tag_code : (s : sorts.Sort) → tag_of the_type s ≡ sort_code s
tag_code sorts.TheVariants.Expression = refl
tag_code sorts.TheVariants.String = refl
tag_code sorts.TheVariants.Run = refl
tag_code sorts.TheVariants.Object = refl
tag_code sorts.TheVariants.Named = refl
tag_code sorts.TheVariants.Param = refl
tag_code sorts.TheVariants.Bind = refl
tag_code sorts.TheVariants.Field = refl
tag_code sorts.TheVariants.Assertion = refl
tag_code sorts.TheVariants.Member = refl
tag_code sorts.TheVariants.Iteration = refl
tag_code sorts.TheVariants.IfClause = refl
tag_code sorts.TheVariants.Clause = refl
tag_code sorts.TheVariants.Pattern = refl
tag_code sorts.TheVariants.NamePattern = refl
tag_code sorts.TheVariants.PatternField = refl
tag_code sorts.TheVariants.CompMember = refl

pub same_code : (a b : sorts.Sort) → sameb the_type a b ≡ eqb (sort_code a) (sort_code b)
same_code a b = ap (λ (n : ℕ). eqb n (tag_of the_type b)) (tag_code a) ∙ ap (eqb (sort_code a)) (tag_code b)

pub is_either : (tag : ℕ) (own wide wanted : sorts.Sort) → sort_code own ≡ code (sort_of tag) → sort_code wide ≡ wide_code (sort_code own)
    → (sameb the_type own wanted || sameb the_type wide wanted) ≡ is_a tag (sort_code wanted)
unfolding is_a
is_either tag own wide wanted e f =
    ap (λ (b : Bool). b || sameb the_type wide wanted) (same_code own wanted ∙ ap (λ (n : ℕ). eqb n (sort_code wanted)) e)
    ∙ ap (λ (b : Bool). eqb (code (sort_of tag)) (sort_code wanted) || b) (same_code wide wanted ∙ ap (λ (n : ℕ). eqb n (sort_code wanted)) (f ∙ ap wide_code e))

pub comp_code : (s : sorts.Sort) → sort_code s ≡ 16 → s ≡ sorts.TheVariants.CompMember
comp_code sorts.TheVariants.Expression e = absurd (omega arith)
comp_code sorts.TheVariants.String e = absurd (omega arith)
comp_code sorts.TheVariants.Run e = absurd (omega arith)
comp_code sorts.TheVariants.Object e = absurd (omega arith)
comp_code sorts.TheVariants.Named e = absurd (omega arith)
comp_code sorts.TheVariants.Param e = absurd (omega arith)
comp_code sorts.TheVariants.Bind e = absurd (omega arith)
comp_code sorts.TheVariants.Field e = absurd (omega arith)
comp_code sorts.TheVariants.Assertion e = absurd (omega arith)
comp_code sorts.TheVariants.Member e = absurd (omega arith)
comp_code sorts.TheVariants.Iteration e = absurd (omega arith)
comp_code sorts.TheVariants.IfClause e = absurd (omega arith)
comp_code sorts.TheVariants.Clause e = absurd (omega arith)
comp_code sorts.TheVariants.Pattern e = absurd (omega arith)
comp_code sorts.TheVariants.NamePattern e = absurd (omega arith)
comp_code sorts.TheVariants.PatternField e = absurd (omega arith)
comp_code sorts.TheVariants.CompMember e = refl

pub is_first : (tag : ℕ) (own wanted : sorts.Sort) → sort_code own ≡ code (sort_of tag) → sameb the_type own wanted ≡ true → true ≡ is_a tag (sort_code wanted)
unfolding is_a
is_first tag own wanted e t =
    let q : eqb (code (sort_of tag)) (sort_code wanted) ≡ true = sym (ap (λ (n : ℕ). eqb n (sort_code wanted)) e) ∙ sym (same_code own wanted) ∙ t in
    sym (ap (λ (b : Bool). b || eqb (wide_code (code (sort_of tag))) (sort_code wanted)) q)

pub is_second : (tag : ℕ) (own wide wanted : sorts.Sort) → sort_code own ≡ code (sort_of tag) → sort_code wide ≡ wide_code (sort_code own) → sameb the_type own wanted ≡ false
    → sameb the_type wide wanted ≡ is_a tag (sort_code wanted)
is_second tag own wide wanted e f n = ap (λ (b : Bool). b || sameb the_type wide wanted) (sym n) ∙ is_either tag own wide wanted e f

-- ── Ages ──────────────────────────────────────────────────────────────────────────────────────────

pub dates_other : (tag size age : ℕ) → (tag ≡ INFIX → ⊥) → age ≡ dates tag size age
unfolding dates
dates_other tag size age n = rw (ne_eqb tag INFIX n)

pub dates_kept : (tag size age : ℕ) → tag ≡ INFIX → (age ≡ 0 → ⊥) → age ≡ dates tag size age
unfolding dates
dates_kept tag size age e n = rw (eq-eqb tag INFIX e, ne_eqb age 0 n)

pub dates_old : (tag size age : ℕ) → tag ≡ INFIX → age ≡ 0 → size ≡ 1 → 1 ≡ dates tag size age
unfolding dates
dates_old tag size age e z o = rw (eq-eqb tag INFIX e, eq-eqb age 0 z, eq-eqb size 1 o)

pub dates_new : (tag size age : ℕ) → tag ≡ INFIX → age ≡ 0 → (size ≡ 1 → ⊥) → 2 ≡ dates tag size age
unfolding dates
dates_new tag size age e z o = rw (eq-eqb tag INFIX e, eq-eqb age 0 z, ne_eqb size 1 o)

pub aged_or : (tag size : ℕ) (age : Option ages.Age) (first : ages.Age) → tag ≡ INFIX → age_code (Some first) ≡ cond (eqb size 1) 1 2 → age_code (option_or age (Some first)) ≡ dates tag size (age_code age)
unfolding dates
aged_or tag size None first e q = rw (eq-eqb tag INFIX e) q
aged_or tag size (Some ages.TheVariants.Old) first e q = rw (eq-eqb tag INFIX e)
aged_or tag size (Some ages.TheVariants.New) first e q = rw (eq-eqb tag INFIX e)

pub old_size : (size : ℕ) → size ≡ 1 → ◌≡◌ {A = ℕ} 1 (cond (eqb size 1) 1 2)
old_size size e = rw (eq-eqb size 1 e)

pub new_size : (size : ℕ) → (size ≡ 1 → ⊥) → ◌≡◌ {A = ℕ} 2 (cond (eqb size 1) 1 2)
new_size size n = rw (ne_eqb size 1 n)

-- The test of an age, by what it says of two ages.
pub is_old : (E : ages.Age → ages.Age → Bool) → E ages.TheVariants.New ages.TheVariants.Old ≡ false → (age : Option ages.Age) → option_eq E age (Some ages.TheVariants.Old) ≡ true → age_code age ≡ 1
is_old E n None e = cc
is_old E n (Some ages.TheVariants.Old) e = refl
is_old E n (Some ages.TheVariants.New) e = cc

pub is_not_old : (E : ages.Age → ages.Age → Bool) → E ages.TheVariants.Old ages.TheVariants.Old ≡ true → (age : Option ages.Age) → option_eq E age (Some ages.TheVariants.Old) ≡ false → age_code age ≡ 1 → ⊥
is_not_old E y None e k = omega arith
is_not_old E y (Some ages.TheVariants.Old) e k = cc
is_not_old E y (Some ages.TheVariants.New) e k = omega arith

pub row_other : (tag age : ℕ) → (tag ≡ INFIX → ⊥) → numbers (layout_of tag) ≡ dated_row tag age
unfolding dated_row
row_other tag age n = rw (ne_eqb tag INFIX n)

pub row_old : (tag age : ℕ) → tag ≡ INFIX → age ≡ 1 → 2 ∷ 28 ∷ 0 ∷ 0 ∷ 0 ∷ 0 ∷ 0 ∷ [] ≡ dated_row tag age
unfolding dated_row
row_old tag age e o = rw (eq-eqb tag INFIX e, eq-eqb age 1 o)

pub row_new : (tag age : ℕ) → tag ≡ INFIX → (age ≡ 1 → ⊥) → numbers (layout_of tag) ≡ dated_row tag age
unfolding dated_row
row_new tag age e o = rw (eq-eqb tag INFIX e, ne_eqb age 1 o)

-- ── Backward spans ────────────────────────────────────────────────────────────────────────────────

onward_is : (x : ℕ) (p q : Bool) → p ≡ q → (not (eqb x BACKWARD) && p) ≡ onward x q
onward_is x p q e = by (eqb x BACKWARD)
  where
    by : (t : Bool) → (not t && p) ≡ cond t false q
    by true = refl
    by false = e

pub forward_all : (v : List ℕ) → length v ≡ 6 → list_all (λ (x : ℕ). not (eqb x BACKWARD)) v ≡ forward v
unfolding forward
forward_all [] h = absurd (omega arith)
forward_all (a ∷ []) h = absurd (omega arith)
forward_all (a ∷ b ∷ []) h = absurd (omega arith)
forward_all (a ∷ b ∷ c ∷ []) h = absurd (omega arith)
forward_all (a ∷ b ∷ c ∷ d ∷ []) h = absurd (omega arith)
forward_all (a ∷ b ∷ c ∷ d ∷ e ∷ []) h = absurd (omega arith)
forward_all (a ∷ b ∷ c ∷ d ∷ e ∷ f ∷ []) h =
    onward_is a _ _ (onward_is b _ _ (onward_is c _ _ (onward_is d _ _ (onward_is e _ _ (onward_is f true true refl)))))
forward_all (a ∷ b ∷ c ∷ d ∷ e ∷ f ∷ g ∷ l) h = absurd (omega arith)

-- ── Parts as they are got ─────────────────────────────────────────────────────────────────────────

pub span_of : (a e x y : ℕ) → x ≡ a → y ≡ e → x ≤ y → x + y ≡ span_value a e
span_of a e x y p q h = let s : x + y ≡ a + e = omega arith in s ∙ span_forward a e (omega arith)

pub span_back : (a e x y : ℕ) → x ≡ a → y ≡ e → y < x → BACKWARD ≡ span_value a e
span_back a e x y p q h = span_backward a e (omega arith)

pub get_byte : {bytes : List ℕ} {at end code v k : ℕ} → 4 ≤ code → at < end → v ≡ get_or bytes at 0 → v < limit code → k ≡ told_by code v → Gets bytes at end code v (at + 1) k
get_byte {bytes} {at} {end} {code} {v} {k} h l e i q =
    let b : get_or bytes at 0 < limit code = omega (arith, e) in
    subst (λ (j : ℕ). Gets bytes at end code v (at + 1) j) (sym q)
    (subst (λ (w : ℕ). Gets bytes at end code w (at + 1) (told_by code w)) (sym e) (Gets.a_byte h l b))

-- ── Where a record ends ───────────────────────────────────────────────────────────────────────────

pub ends_at : {bytes : List ℕ} {at n : ℕ} → n ≡ two_at bytes (at + 1) → at + 3 + n ≤ length bytes → Extends bytes at (Some (at + 3 + n))
ends_at {bytes} {at} {n} e h = subst (λ (m : ℕ). Extends bytes at (Some (at + 3 + m))) (sym e) (Extends.end (omega arith))

pub part_length : (bytes : List ℕ) (size end : ℕ) → size ≤ end → end ≤ length bytes → length (tail_part size end bytes) ≡ size
part_length bytes size end h l =
    let d = length-drop (end - size) bytes in
    let t = length-take-le (end - (end - size)) (drop (end - size) bytes) (omega (arith, d)) in
    omega (arith, t)

pub part_slice : (bytes : List ℕ) (a e : ℕ) → a ≤ e → take (e - a) (drop a bytes) ≡ slice a e bytes
part_slice bytes zero e h = let q : e - 0 ≡ e = omega arith in ap (λ (n : ℕ). take n bytes) q
part_slice [] (suc a) zero h = absurd (omega arith)
part_slice [] (suc a) (suc e) h = take-nil (suc e - suc a)
part_slice (x ∷ xs) (suc a) zero h = absurd (omega arith)
part_slice (x ∷ xs) (suc a) (suc e) h = let q : suc e - suc a ≡ e - a = omega arith in ap (λ (n : ℕ). take n (drop a xs)) q ∙ part_slice xs a e (omega arith)

-- ── Texts ─────────────────────────────────────────────────────────────────────────────────────────

empty_of : {text : ℕ} {u : List ℕ} → text ≡ 4 → Worded text u → length u ≡ 0
empty_of e Worded.free = absurd (omega arith)
empty_of e (Worded.number n) = absurd (omega arith)
empty_of e (Worded.utf8 n) = absurd (omega arith)
empty_of e (Worded.name n) = absurd (omega arith)
empty_of e Worded.empty = refl

pub nil_of : (u : List ℕ) → length u ≡ 0 → [] ≡ u
nil_of [] e = refl
nil_of (x ∷ xs) e = absurd (omega arith)

worded_kind : {text : ℕ} {u : List ℕ} → Worded text u → text ≤ 4
worded_kind Worded.free = omega arith
worded_kind (Worded.number n) = omega arith
worded_kind (Worded.utf8 n) = omega arith
worded_kind (Worded.name n) = omega arith
worded_kind Worded.empty = omega arith

pub number_of : {w : List ℕ} → Worded 1 w → NumberText w
number_of (Worded.number n) = n

pub utf8_of : {w : List ℕ} → Worded 2 w → Utf8 w
utf8_of (Worded.utf8 n) = n

pub name_of : {w : List ℕ} → Worded 3 w → NameText w
name_of (Worded.name n) = n

pub free_says : {w : List ℕ} {text : ℕ} → text ≡ 0 → Says (Worded text w) true
free_says {w} e = subst (λ (t : ℕ). Says (Worded t w) true) (sym e) (Says.holds Worded.free)

pub number_says : {w : List ℕ} {text : ℕ} {r : Bool} → text ≡ 1 → Says (NumberText w) r → Says (Worded text w) r
number_says {w} {text} {r} e d = subst (λ (t : ℕ). Says (Worded t w) r) (sym e) (same Worded.number number_of d)

pub utf8_says : {w : List ℕ} {text : ℕ} {r : Bool} → text ≡ 2 → Says (Utf8 w) r → Says (Worded text w) r
utf8_says {w} {text} {r} e d = subst (λ (t : ℕ). Says (Worded t w) r) (sym e) (same Worded.utf8 utf8_of d)

pub name_says : {w : List ℕ} {text : ℕ} {r : Bool} → text ≡ 3 → Says (NameText w) r → Says (Worded text w) r
name_says {w} {text} {r} e d = subst (λ (t : ℕ). Says (Worded t w) r) (sym e) (same Worded.name name_of d)

pub empty_says : {w : List ℕ} {text : ℕ} (n : ℕ) → text ≡ 4 → length w ≡ n → Says (Worded text w) (eqb n 0)
empty_says {w} {text} n e l = by (eqb n 0) refl
  where
    by : (b : Bool) → eqb n 0 ≡ b → Says (Worded text w) b
    by true q = let z : length w ≡ 0 = omega (arith, eqb-true n 0 q) in Says.holds (subst (λ (t : ℕ). Worded t w) (sym e) (subst (λ (u : List ℕ). Worded 4 u) (nil_of w z) Worded.empty))
    by false q = Says.fails (λ x. eqb-false n 0 q (omega (arith, empty_of e x)))

pub none_says : {w : List ℕ} {text : ℕ} → (text ≤ 4 → ⊥) → Says (Worded text w) false
none_says n = Says.fails (λ x. n (worded_kind x))

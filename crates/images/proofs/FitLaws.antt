-- The groups of roots that the code walks over, and the sorts of children that the table wants.
-- Assumes nothing.
use mathlib.Core.Path.{◌≡◌, refl, sym, ap, subst, ◌∙◌}
use mathlib.Core.Bool.{Bool, true, false, cond, not, ◌&&◌, ◌||◌}
use mathlib.Core.List.{List, [], ◌∷◌, ◌++◌, map}
use Prim.Native.Nat.{ℕ, zero, suc, ◌+◌, ◌<◌}
use native.Mathlib.Omega.{arith}
use lib.Dec.{T, eqb}
use lib.ListN.{length, take, drop, length-append, take-append-drop, length-drop}
use lib.Seq.{length-take-le}
use borrow.Author.Tests.{eqb-true, eq-eqb}
use Rattle.grammar.specs.Tags.{FIELD}
use Rattle.grammar.specs.Records.{Sort, Is, Fits, times}
use Rattle.grammar.specs.Records as records
use Rattle.grammar.proofs.Chosen.{and_left, and_right}
use Rattle.grammar.proofs.Sorts.{fits_append, fits-length, times-length}
use Rattle.images.specs.Inner.{Question, Entry, ◌is◌, look, code, sort_of, sorts, wides, wide_code, is_a, COMP, Each, OneField, Group, Fit}
use Rattle.images.proofs.FormLaws.{numbered, sort_at, groups, Wanted}
use Rattle.images.proofs.RowLaws.{fits_as, back, back_append, back_onto, back_back, take_back, drop_back}

-- ── Numbers of sorts ──────────────────────────────────────────────────────────────────────────────

sort_code : (σ : Sort) → sort_at (code σ) ≡ σ
unfolding sort_at code look numbered
sort_code records.expression = refl
sort_code records.string = refl
sort_code records.run = refl
sort_code records.object = refl
sort_code records.named = refl
sort_code records.param = refl
sort_code records.bind = refl
sort_code records.field = refl
sort_code records.assertion = refl
sort_code records.member = refl
sort_code records.iteration = refl
sort_code records.if_clause = refl
sort_code records.clause = refl
sort_code records.pattern = refl
sort_code records.name_pattern = refl
sort_code records.pattern_field = refl

code_sort : (s : ℕ) → s < 16 → code (sort_at s) ≡ s
unfolding sort_at code look numbered
code_sort zero h = refl
code_sort (suc zero) h = refl
code_sort (suc (suc zero)) h = refl
code_sort (suc (suc (suc zero))) h = refl
code_sort (suc (suc (suc (suc zero)))) h = refl
code_sort (suc (suc (suc (suc (suc zero))))) h = refl
code_sort (suc (suc (suc (suc (suc (suc zero)))))) h = refl
code_sort (suc (suc (suc (suc (suc (suc (suc zero))))))) h = refl
code_sort (suc (suc (suc (suc (suc (suc (suc (suc zero)))))))) h = refl
code_sort (suc (suc (suc (suc (suc (suc (suc (suc (suc zero))))))))) h = refl
code_sort (suc (suc (suc (suc (suc (suc (suc (suc (suc (suc zero)))))))))) h = refl
code_sort (suc (suc (suc (suc (suc (suc (suc (suc (suc (suc (suc zero))))))))))) h = refl
code_sort (suc (suc (suc (suc (suc (suc (suc (suc (suc (suc (suc (suc zero)))))))))))) h = refl
code_sort (suc (suc (suc (suc (suc (suc (suc (suc (suc (suc (suc (suc (suc zero))))))))))))) h = refl
code_sort (suc (suc (suc (suc (suc (suc (suc (suc (suc (suc (suc (suc (suc (suc zero)))))))))))))) h = refl
code_sort (suc (suc (suc (suc (suc (suc (suc (suc (suc (suc (suc (suc (suc (suc (suc zero))))))))))))))) h = refl
code_sort (suc (suc (suc (suc (suc (suc (suc (suc (suc (suc (suc (suc (suc (suc (suc (suc s)))))))))))))))) h = absurd (omega arith)

widened : (σ : Sort) → Is σ (sort_at (wide_code (code σ)))
unfolding sort_at code look numbered wide_code wides
widened records.expression = Is.itself
widened records.string = Is.a_string
widened records.run = Is.a_run
widened records.object = Is.an_object
widened records.named = Is.itself
widened records.param = Is.itself
widened records.bind = Is.a_local
widened records.field = Is.a_field
widened records.assertion = Is.an_assertion
widened records.member = Is.itself
widened records.iteration = Is.an_iteration
widened records.if_clause = Is.an_if
widened records.clause = Is.itself
widened records.pattern = Is.itself
widened records.name_pattern = Is.a_name
widened records.pattern_field = Is.itself

either : {C : Type 0} (b c : Bool) → b || c ≡ true → (b ≡ true → C) → (c ≡ true → C) → C
either true c e f g = f refl
either false c e f g = g e

or_left : (b c : Bool) → b ≡ true → b || c ≡ true
or_left true c e = refl
or_left false c e = absurd (let z : ◌≡◌ {A = ℕ} 0 1 = cc in omega arith)

or_right_lem : (b c : Bool) → c ≡ true → b || c ≡ true
or_right_lem true c e = refl
or_right_lem false c e = e

pub is_of : (tag s : ℕ) → is_a tag s ≡ true → Is (sort_of tag) (sort_at s)
unfolding is_a
is_of tag s e =
    let σ = sort_of tag in
    either (eqb (code σ) s) (eqb (wide_code (code σ)) s) e
    (λ q. subst (λ (τ : Sort). Is σ τ) (sym (sort_code σ) ∙ ap sort_at (eqb-true (code σ) s q)) Is.itself)
    (λ q. subst (λ (i : ℕ). Is σ (sort_at i)) (eqb-true (wide_code (code σ)) s q) (widened σ))

-- what counts as what, by the numbers
number_of : {σ τ : Sort} → Is σ τ → (s : ℕ) → code τ ≡ s → eqb (code σ) s || eqb (wide_code (code σ)) s ≡ true
unfolding code wide_code wides look
number_of {σ} Is.itself s e = or_left (eqb (code σ) s) (eqb (wide_code (code σ)) s) (eq-eqb (code σ) s e)
number_of Is.a_string s e = or_right_lem (eqb (code records.string) s) (eqb (wide_code (code records.string)) s) (eq-eqb (wide_code (code records.string)) s e)
number_of Is.a_run s e = or_right_lem (eqb (code records.run) s) (eqb (wide_code (code records.run)) s) (eq-eqb (wide_code (code records.run)) s e)
number_of Is.an_object s e = or_right_lem (eqb (code records.object) s) (eqb (wide_code (code records.object)) s) (eq-eqb (wide_code (code records.object)) s e)
number_of Is.a_local s e = or_right_lem (eqb (code records.bind) s) (eqb (wide_code (code records.bind)) s) (eq-eqb (wide_code (code records.bind)) s e)
number_of Is.a_field s e = or_right_lem (eqb (code records.field) s) (eqb (wide_code (code records.field)) s) (eq-eqb (wide_code (code records.field)) s e)
number_of Is.an_assertion s e = or_right_lem (eqb (code records.assertion) s) (eqb (wide_code (code records.assertion)) s) (eq-eqb (wide_code (code records.assertion)) s e)
number_of Is.an_iteration s e = or_right_lem (eqb (code records.iteration) s) (eqb (wide_code (code records.iteration)) s) (eq-eqb (wide_code (code records.iteration)) s e)
number_of Is.an_if s e = or_right_lem (eqb (code records.if_clause) s) (eqb (wide_code (code records.if_clause)) s) (eq-eqb (wide_code (code records.if_clause)) s e)
number_of Is.a_name s e = or_right_lem (eqb (code records.name_pattern) s) (eqb (wide_code (code records.name_pattern)) s) (eq-eqb (wide_code (code records.name_pattern)) s e)

pub of_is : (tag s : ℕ) → s < 16 → Is (sort_of tag) (sort_at s) → is_a tag s ≡ true
unfolding is_a
of_is tag s h i = number_of i s (code_sort s h)

-- ── Each of a sort ────────────────────────────────────────────────────────────────────────────────

each_fits : (s : ℕ) (xs : List ℕ) → Each s xs → Fits (map sort_of xs) (times (length xs) (sort_at s))
unfolding times
each_fits s [] Each.none = Fits.none
each_fits s (x ∷ xs) (Each.more i e) = Fits.more (is_of x s i) (each_fits s xs e)

fits_each : (s n : ℕ) (xs : List ℕ) → s < 16 → Fits (map sort_of xs) (times n (sort_at s)) → Each s xs
unfolding times
fits_each s zero [] h f = Each.none
fits_each s zero (x ∷ xs) h f = elim f [ ]
fits_each s (suc n) [] h f = elim f [ ]
fits_each s (suc n) (x ∷ xs) h (Fits.more i f) = Each.more (of_is x s h i) (fits_each s n xs h f)

each_onto : (s : ℕ) (xs l : List ℕ) → Each s xs → Each s l → Each s (back xs l)
unfolding back
each_onto s [] l Each.none f = f
each_onto s (x ∷ xs) l (Each.more i e) f = each_onto s xs (x ∷ l) e (Each.more i f)

each_back : (s : ℕ) (xs : List ℕ) → Each s xs → Each s (back xs [])
each_back s xs e = each_onto s xs [] e Each.none

back_each : (s : ℕ) (xs : List ℕ) → Each s (back xs []) → Each s xs
unfolding back
back_each s xs e = subst (λ (l : List ℕ). Each s l) (back_back xs []) (each_back s (back xs []) e)

-- ── One field ─────────────────────────────────────────────────────────────────────────────────────

pub record Around (xs : List ℕ) : Type 0 where
  pub before : List ℕ
  pub after : List ℕ
  pub whole : xs ≡ before ++ FIELD ∷ after
  pub binds : Each 6 before
  pub binds_after : Each 6 after

one_around : {xs : List ℕ} → OneField xs → Around xs
one_around (OneField.here {tags = tags} e) = record { before = []; after = tags; whole = refl; binds = Each.none; binds_after = e }
one_around (OneField.before {tag = tag} i o) =
    let x = one_around o in
    record { before = tag ∷ x.before; after = x.after; whole = ap (λ (l : List ℕ). tag ∷ l) x.whole; binds = Each.more i x.binds; binds_after = x.binds_after }

around_one : (p q : List ℕ) → Each 6 p → Each 6 q → OneField (p ++ FIELD ∷ q)
around_one [] q e f = OneField.here f
around_one (x ∷ p) q (Each.more i e) f = OneField.before i (around_one p q e f)

-- backward as well
back_around : (p q : List ℕ) → back (p ++ FIELD ∷ q) [] ≡ back q [] ++ FIELD ∷ back p []
unfolding back
back_around p q = back_append p (FIELD ∷ q) [] ∙ back_onto q (FIELD ∷ back p [])

around_back : (xs : List ℕ) → Around (back xs []) → Around xs
unfolding back
around_back xs a = record {
  before = back a.after [];
  after = back a.before [];
  whole = sym (back_back xs []) ∙ ap (λ (l : List ℕ). back l []) a.whole ∙ back_around a.before a.after;
  binds = each_back 6 a.after a.binds_after;
  binds_after = each_back 6 a.before a.binds;
}

-- ── Three groups ──────────────────────────────────────────────────────────────────────────────────

-- A list in three, by their lengths.
pub record Three (xs : List ℕ) (i j k : ℕ) : Type 0 where
  pub x1 : List ℕ
  pub x2 : List ℕ
  pub x3 : List ℕ
  pub whole : xs ≡ x1 ++ (x2 ++ x3)
  pub l1 : length x1 ≡ i
  pub l2 : length x2 ≡ j
  pub l3 : length x3 ≡ k

pub three : (xs : List ℕ) (i j k : ℕ) → length xs ≡ i + (j + k) → Three xs i j k
three xs i j k e = record {
  x1 = take i xs;
  x2 = take j (drop i xs);
  x3 = drop j (drop i xs);
  whole = sym (take-append-drop i xs) ∙ ap (λ (l : List ℕ). take i xs ++ l) (sym (take-append-drop j (drop i xs)));
  l1 = length-take-le i xs (omega arith);
  l2 = length-take-le j (drop i xs) (omega (arith, length-drop i xs));
  l3 = omega (arith, length-drop i xs, length-drop j (drop i xs));
}

-- The groups, as the walk from the last root on sees them.
record Seen (a : Question) (x : List ℕ) (y : List ℕ) (z : List ℕ) : Type 0 where
  pub g1 : Group a.s1 (back x [])
  pub g2 : Group a.s2 (back y [])
  pub g3 : Group a.s3 (back z [])

module _ (a : Question) (xs l : List ℕ) (t : Three xs a.n1 a.n2 a.n3) where
  backs : back xs l ≡ back t.x3 (back t.x2 (back t.x1 l))
  backs = ap (λ (w : List ℕ). back w l) t.whole ∙ back_append t.x1 (t.x2 ++ t.x3) l ∙ back_append t.x2 t.x3 (back t.x1 l)

  rest3 : drop a.n3 (back xs l) ≡ back t.x2 (back t.x1 l)
  rest3 = ap (drop a.n3) backs ∙ drop_back a.n3 t.x3 (back t.x2 (back t.x1 l)) t.l3

  rest2 : drop a.n2 (drop a.n3 (back xs l)) ≡ back t.x1 l
  rest2 = ap (drop a.n2) rest3 ∙ drop_back a.n2 t.x2 (back t.x1 l) t.l2

  take3 : take a.n3 (back xs l) ≡ back t.x3 []
  take3 = ap (take a.n3) backs ∙ take_back a.n3 t.x3 (back t.x2 (back t.x1 l)) t.l3

  take2 : take a.n2 (drop a.n3 (back xs l)) ≡ back t.x2 []
  take2 = ap (take a.n2) rest3 ∙ take_back a.n2 t.x2 (back t.x1 l) t.l2

  take1 : take a.n1 (drop a.n2 (drop a.n3 (back xs l))) ≡ back t.x1 []
  take1 = ap (take a.n1) rest2 ∙ take_back a.n1 t.x1 l t.l1

  pub beyond_all : drop a.n1 (drop a.n2 (drop a.n3 (back xs l))) ≡ l
  beyond_all = ap (drop a.n1) rest2 ∙ drop_back a.n1 t.x1 l t.l1

  fit_seen : Fit a (back xs l) → Seen a t.x1 t.x2 t.x3
  fit_seen f = record {
    g1 = subst (λ (r : List ℕ). Group a.s1 r) take1 f.first;
    g2 = subst (λ (r : List ℕ). Group a.s2 r) take2 f.second;
    g3 = subst (λ (r : List ℕ). Group a.s3 r) take3 f.third;
  }

  seen_fit : Seen a t.x1 t.x2 t.x3 → Fit a (back xs l)
  seen_fit s = record {
    first = subst (λ (r : List ℕ). Group a.s1 r) (sym take1) s.g1;
    second = subst (λ (r : List ℕ). Group a.s2 r) (sym take2) s.g2;
    third = subst (λ (r : List ℕ). Group a.s3 r) (sym take3) s.g3;
  }

group_each : {s : ℕ} {xs : List ℕ} → s < 16 → Group s xs → Each s xs
group_each h (Group.each n e) = e
group_each h (Group.comp o) = absurd (omega arith)

group_one : {s : ℕ} {xs : List ℕ} → s ≡ COMP → Group s xs → OneField xs
group_one h (Group.each n e) = absurd (n h)
group_one h (Group.comp o) = o

group_fits : (s n : ℕ) (xs : List ℕ) → s < 16 → length xs ≡ n → Group s (back xs []) → Fits (map sort_of xs) (times n (sort_at s))
group_fits s n xs h e g = subst (λ (i : ℕ). Fits (map sort_of xs) (times i (sort_at s))) e (each_fits s xs (back_each s xs (group_each h g)))

fits_group : (s n : ℕ) (xs : List ℕ) → s < 16 → Fits (map sort_of xs) (times n (sort_at s)) → Group s (back xs [])
fits_group s n xs h f = Group.each {sort = s} (λ e. omega (arith, e, h)) (each_back s xs (fits_each s n xs h f))

map_append : (xs ys : List ℕ) → map sort_of (xs ++ ys) ≡ map sort_of xs ++ map sort_of ys
map_append [] ys = refl
map_append (x ∷ xs) ys = ap (λ (l : List Sort). sort_of x ∷ l) (map_append xs ys)

-- what fits two rows, in two
record Fitting (xs : List ℕ) (ws us : List Sort) : Type 0 where
  pub y1 : List ℕ
  pub y2 : List ℕ
  pub whole : xs ≡ y1 ++ y2
  pub fits1 : Fits (map sort_of y1) ws
  pub fits2 : Fits (map sort_of y2) us

fits_split : (xs : List ℕ) (ws us : List Sort) → Fits (map sort_of xs) (ws ++ us) → Fitting xs ws us
fits_split [] (w ∷ ws) us f = elim f [ ]
fits_split xs [] us f = record { y1 = []; y2 = xs; whole = refl; fits1 = Fits.none; fits2 = f }
fits_split (x ∷ xs) (w ∷ ws) us (Fits.more i f) =
    let g = fits_split xs ws us f in
    record { y1 = x ∷ g.y1; y2 = g.y2; whole = ap (λ (l : List ℕ). x ∷ l) g.whole; fits1 = Fits.more i g.fits1; fits2 = g.fits2 }

mapped : (ys : List ℕ) → length (map sort_of ys) ≡ length ys
mapped [] = refl
mapped (y ∷ ys) = ap suc (mapped ys)

fit_length : (xs : List ℕ) {ws : List Sort} (n : ℕ) → Fits (map sort_of xs) ws → length ws ≡ n → length xs ≡ n
fit_length xs n f e = sym (mapped xs) ∙ fits-length f ∙ e

-- the members of an object comprehension
field_fits : (p q : List ℕ) → Each 6 p → Each 6 q → Fits (map sort_of (p ++ FIELD ∷ q)) (times (length p) records.bind ++ records.field ∷ times (length q) records.bind)
unfolding sort_at look numbered sort_of sorts
field_fits p q e f = fits_as (sym (map_append p (FIELD ∷ q))) (fits_append (each_fits 6 p e) (Fits.more Is.itself (each_fits 6 q f)))

-- only a field's record is a field
fields_only : List (Entry Sort) → Bool
fields_only [] = true
fields_only ((k is a) ∷ rest) = (not (eqb (code a) 7) || eqb k FIELD) && fields_only rest

field_in : (z : ℕ) (rs : List (Entry Sort)) → T (fields_only rs) → code (look records.expression z rs) ≡ 7 → z ≡ FIELD
unfolding look fields_only code
field_in z [] h e = absurd (omega arith)
field_in z ((k is a) ∷ rs) h e = by (eqb z k) refl e (λ q. field_in z rs (and_right (not (eqb (code a) 7) || eqb k FIELD) (fields_only rs) h) q)
  where
    key : (b c : Bool) → b ≡ true → T (not b || c) → c ≡ true
    key true true q t = refl
    key true false q t = absurd t
    key false c q t = absurd (let w : ◌≡◌ {A = ℕ} 0 1 = cc in omega arith)

    by : (b : Bool) → eqb z k ≡ b → code (cond b a (look records.expression z rs)) ≡ 7 → (code (look records.expression z rs) ≡ 7 → z ≡ FIELD) → z ≡ FIELD
    by true q w f = eqb-true z k q ∙ eqb-true k FIELD (key (eqb (code a) 7) (eqb k FIELD) (eq-eqb (code a) 7 w) (and_left (not (eqb (code a) 7) || eqb k FIELD) (fields_only rs) h))
    by false q w f = f w

is_field : {σ : Sort} → Is σ records.field → code σ ≡ 7
unfolding code
is_field Is.itself = refl

field_tag : (z : ℕ) → Is (sort_of z) records.field → z ≡ FIELD
unfolding sort_of sorts fields_only code
field_tag z i = field_in z sorts tt (is_field i)

-- the field and the binds after it
record FieldFirst (xs : List ℕ) (y : ℕ) : Type 0 where
  pub binds : List ℕ
  pub whole : xs ≡ FIELD ∷ binds
  pub each : Each 6 binds

field-first : (xs : List ℕ) (y : ℕ) → Fits (map sort_of xs) (records.field ∷ times y records.bind) → FieldFirst xs y
unfolding sort_at look numbered
field-first [] y x' = elim x' [ ]
field-first (z ∷ zs) y (Fits.more i f) = record { binds = zs; whole = ap (λ (k : ℕ). k ∷ zs) (field_tag z i); each = fits_each 6 y zs (omega arith) f }

-- ── What is asked for is there ────────────────────────────────────────────────────────────────────

module _ (a : Question) (xs l : List ℕ) where
  pub plain_fits : length xs ≡ a.n1 + (a.n2 + a.n3) → Fit a (back xs l) → (a.s1 < 16) × (a.s2 < 16) × (a.s3 < 16) → Fits (map sort_of xs) (groups a)
  unfolding groups
  plain_fits e f h =
      let t = three xs a.n1 a.n2 a.n3 e in
      let s = fit_seen a xs l t f in
      let g = fits_append (group_fits a.s1 a.n1 t.x1 h.0 t.l1 s.g1) (fits_append (group_fits a.s2 a.n2 t.x2 h.1 t.l2 s.g2) (group_fits a.s3 a.n3 t.x3 h.2 t.l3 s.g3)) in
      let m = map_append t.x1 (t.x2 ++ t.x3) ∙ ap (λ (r : List Sort). map sort_of t.x1 ++ r) (map_append t.x2 t.x3) in
      fits_as (ap (map sort_of) (sym t.whole)) (fits_as (sym m) g)

  pub comp_fits : length xs ≡ a.n1 + (a.n2 + a.n3) → Fit a (back xs l) → a.s1 ≡ COMP → a.n2 ≡ 1 → a.s2 ≡ 10 → a.s3 ≡ 12
      → (x : ℕ) × (y : ℕ) × (a.n1 ≡ x + 1 + y) × Fits (map sort_of xs) ((times x records.bind ++ records.field ∷ times y records.bind) ++ records.iteration ∷ times a.n3 records.clause)
  unfolding sort_at look numbered times
  comp_fits e f h n2 s2 s3 =
      let t = three xs a.n1 a.n2 a.n3 e in
      let s = fit_seen a xs l t f in
      let o = around_back t.x1 (one_around (group_one h s.g1)) in
      let m = field_fits o.before o.after o.binds o.binds_after in
      let c2 = subst (λ (i : ℕ). Fits (map sort_of t.x2) (times i records.iteration)) n2 (subst (λ (i : ℕ). Fits (map sort_of t.x2) (times a.n2 (sort_at i))) s2 (group_fits a.s2 a.n2 t.x2 (omega (arith, s2)) t.l2 s.g2)) in
      let c3 = subst (λ (i : ℕ). Fits (map sort_of t.x3) (times a.n3 (sort_at i))) s3 (group_fits a.s3 a.n3 t.x3 (omega (arith, s3)) t.l3 s.g3) in
      let g = fits_append (fits_as (ap (map sort_of) (sym o.whole)) m) (fits_append c2 c3) in
      let w = map_append t.x1 (t.x2 ++ t.x3) ∙ ap (λ (r : List Sort). map sort_of t.x1 ++ r) (map_append t.x2 t.x3) in
      let k = ap length o.whole ∙ length-append o.before (FIELD ∷ o.after) in
      (length o.before, length o.after, omega (arith, k, t.l1), fits_as (ap (map sort_of) (sym t.whole)) (fits_as (sym w) g))

  -- and the other way round
  pub fits_wanted : {ws : List Sort} → Wanted a ws → Fits (map sort_of xs) ws → Fit a (back xs l)
  unfolding groups sort_at look numbered times
  fits_wanted (Wanted.plain h e) f = by (subst (λ (ws : List Sort). Fits (map sort_of xs) ws) (sym e) f)
    where
      by : Fits (map sort_of xs) (times a.n1 (sort_at a.s1) ++ (times a.n2 (sort_at a.s2) ++ times a.n3 (sort_at a.s3))) → Fit a (back xs l)
      by f =
          let u = fits_split xs (times a.n1 (sort_at a.s1)) _ f in
          let v = fits_split u.y2 (times a.n2 (sort_at a.s2)) _ u.fits2 in
          let t : Three xs a.n1 a.n2 a.n3 = record {
            x1 = u.y1;
            x2 = v.y1;
            x3 = v.y2;
            whole = u.whole ∙ ap (λ (r : List ℕ). u.y1 ++ r) v.whole;
            l1 = fit_length u.y1 a.n1 u.fits1 (times-length a.n1 (sort_at a.s1));
            l2 = fit_length v.y1 a.n2 v.fits1 (times-length a.n2 (sort_at a.s2));
            l3 = fit_length v.y2 a.n3 v.fits2 (times-length a.n3 (sort_at a.s3));
          } in
          seen_fit a xs l t (record { g1 = fits_group a.s1 a.n1 u.y1 h.0 u.fits1; g2 = fits_group a.s2 a.n2 v.y1 h.1 v.fits1; g3 = fits_group a.s3 a.n3 v.y2 h.2 v.fits2 })
  fits_wanted (Wanted.comp x y n s1 n1 n2 s2 n3 s3) f =
      let u = fits_split xs (times x records.bind ++ records.field ∷ times y records.bind) (records.iteration ∷ times n records.clause) f in
      let v = fits_split u.y1 (times x records.bind) (records.field ∷ times y records.bind) u.fits1 in
      let w = fits_split u.y2 (times 1 records.iteration) (times n records.clause) u.fits2 in
      let q = field-first v.y2 y v.fits2 in
      let members : u.y1 ≡ v.y1 ++ FIELD ∷ q.binds = v.whole ∙ ap (λ (r : List ℕ). v.y1 ++ r) q.whole in
      let many = length-append (times x records.bind) (records.field ∷ times y records.bind) in
      let t : Three xs a.n1 a.n2 a.n3 = record {
        x1 = u.y1;
        x2 = w.y1;
        x3 = w.y2;
        whole = u.whole ∙ ap (λ (r : List ℕ). u.y1 ++ r) w.whole;
        l1 = fit_length u.y1 a.n1 u.fits1 (omega (arith, many, times-length x records.bind, times-length y records.bind, n1));
        l2 = fit_length w.y1 a.n2 w.fits1 (sym n2);
        l3 = fit_length w.y2 a.n3 w.fits2 (times-length n records.clause ∙ sym n3);
      } in
      let b = each_back 6 v.y1 (fits_each 6 x v.y1 (omega arith) v.fits1) in
      let c = each_back 6 q.binds q.each in
      let o : OneField (back u.y1 []) = subst (λ (r : List ℕ). OneField r) (sym (ap (λ (r : List ℕ). back r []) members ∙ back_around v.y1 q.binds)) (around_one (back q.binds []) (back v.y1 []) c b) in
      seen_fit a xs l t (record {
        g1 = subst (λ (s : ℕ). Group s (back u.y1 [])) (sym s1) (Group.comp o);
        g2 = subst (λ (s : ℕ). Group s (back w.y1 [])) (sym s2) (fits_group 10 1 w.y1 (omega arith) w.fits1);
        g3 = subst (λ (s : ℕ). Group s (back w.y2 [])) (sym s3) (fits_group 12 n w.y2 (omega arith) w.fits2);
      })

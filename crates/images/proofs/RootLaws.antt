-- The row of open roots: the last of them, and how the walks over groups of them go.
-- Assumes nothing.
use mathlib.Core.Path.{◌≡◌, refl, sym, ap, subst, ◌∙◌}
use mathlib.Core.Bool.{Bool, true, false}
use mathlib.Core.List.{List, [], ◌∷◌}
use Prim.Native.Nat.{ℕ, zero, suc, ◌+◌, ◌-◌, ◌*◌, ◌≤◌, ◌<◌}
use native.Mathlib.Omega.{arith}
use lib.ListN.{length, take, drop, get_or, length-drop}
use Rattle.grammar.specs.Tags.{FIELD}
use Rattle.std.proofs.Common.{Option, None, Some}
use Rattle.images.specs.Inner.{Question, is_a, sort_of, code, wide_code, COMP, Chain, pops, Lands, Each, OneField, Group, Walked, Fitted}

pub no_true : {b : Bool} → b ≡ true → b ≡ false → ⊥
no_true {b} e f = by (sym e ∙ f)
  where
    by : true ≡ false → ⊥
    by q = let z : ◌≡◌ {A = ℕ} 0 1 = cc in omega arith

one_some : {tags : List ℕ} → OneField tags → 0 < length tags
one_some (OneField.here e) = omega arith
one_some (OneField.before i o) = omega arith

pub no_field : OneField [] → ⊥
no_field o = omega (arith, one_some o)

pub enough_left : (n k : ℕ) (tags : List ℕ) → n + k ≤ length tags → k ≤ length (drop n tags)
enough_left n k tags h = omega (arith, length-drop n tags)

pub pops_one : (array : List ℕ) (m left : ℕ) → 0 < left → pops array m left ≡ pops array (get_or array ((m - 1) * 2 + 1) 0) (left - 1)
unfolding pops
pops_one array m zero h = absurd (omega arith)
pops_one array m (suc k) h = let e : k ≡ suc k - 1 = omega arith in ap (pops array (get_or array ((m - 1) * 2 + 1) 0)) e

pub pops_none : (array : List ℕ) (m left : ℕ) → left ≡ 0 → m ≡ pops array m left
unfolding pops
pops_none array m left e = sym (ap (pops array m) e)

pub pops_add : (array : List ℕ) (m k l : ℕ) → pops array (pops array m k) l ≡ pops array m (k + l)
unfolding pops
pops_add array m zero l = let e : l ≡ 0 + l = omega arith in ap (pops array m) e
pops_add array m (suc k) l = let e : suc (k + l) ≡ suc k + l = omega arith in pops_add array (get_or array ((m - 1) * 2 + 1) 0) k l ∙ ap (pops array m) e

pub lands_as : {array : List ℕ} {from m k l : ℕ} {r : Option ℕ} → pops array m l ≡ pops array from k → Lands array m l r → Lands array from k r
lands_as e (Lands.at h) = Lands.at (h ∙ e)
lands_as e Lands.nowhere = Lands.nowhere

pub lands_at : {array : List ℕ} {from k m : ℕ} → Lands array from k (Some m) → m ≡ pops array from k
lands_at (Lands.at h) = h

module _ (bytes array : List ℕ) where
  -- The tag of a record by its number.
  abbrev pub tag_at : ℕ → ℕ
  tag_at m = get_or bytes (get_or array (m * 2) 0) 0

  abbrev pub first_at : ℕ → ℕ
  first_at m = get_or array (m * 2 + 1) 0

  -- The last root.
  pub record Top (m : ℕ) (tags : List ℕ) : Type 0 where
    pub some : 1 ≤ m
    pub in_array : (m - 1) * 2 + 1 < length array
    pub in_bytes : get_or array ((m - 1) * 2) 0 < length bytes
    pub lower : first_at (m - 1) ≤ m - 1
    pub rest : List ℕ
    pub here : tags ≡ tag_at (m - 1) ∷ rest
    pub below : Chain bytes array (first_at (m - 1)) rest

  pub top : {m : ℕ} {tags : List ℕ} → Chain bytes array m tags → 0 < length tags → Top m tags
  top Chain.none h = absurd (omega arith)
  top (Chain.root {m} {tags} a b l c) h =
      let e : m ≡ m + 1 - 1 = omega arith in
      record {
        some = omega arith;
        in_array = subst (λ (i : ℕ). i * 2 + 1 < length array) e a;
        in_bytes = subst (λ (i : ℕ). get_or array (i * 2) 0 < length bytes) e b;
        lower = subst (λ (i : ℕ). first_at i ≤ i) e l;
        rest = tags;
        here = ap (λ (i : ℕ). tag_at i ∷ tags) e;
        below = subst (λ (i : ℕ). Chain bytes array (first_at i) tags) e c;
      }

  -- What is left of a walk comes to what the whole walk comes to.
  pub record Pending (P : List ℕ → Type 0) (n : ℕ) (tags : List ℕ) (m left : ℕ) : Type 0 where
    pub rest : List ℕ
    pub chain : Chain bytes array m rest
    pub enough : left ≤ length rest
    pub back : (r : Option ℕ) → Walked bytes array P left rest r → Walked bytes array P n tags r

  module _ {P : List ℕ → Type 0} {n : ℕ} {tags : List ℕ} where
    pub starts : {from : ℕ} → Chain bytes array from tags → n ≤ length tags → Pending P n tags from n
    starts c h = record { rest = tags; chain = c; enough = h; back = λ r w. w }

    module _ {m left : ℕ} (x : Pending P n tags m left) where
      pub last : 0 < left → Top m x.rest
      last h = top x.chain (omega (arith, x.enough))

      -- the next root does not decide
      pub goes_on : 0 < left → ((l : ℕ) (rest : List ℕ) (r : Option ℕ) → Walked bytes array P l rest r → Walked bytes array P (suc l) (tag_at (m - 1) ∷ rest) r)
          → Pending P n tags (first_at (m - 1)) (left - 1)
      goes_on h f =
          let t = last h in
          let e : suc (left - 1) ≡ left = omega arith in
          let l : length x.rest ≡ suc (length t.rest) = ap length t.here in
          record {
            rest = t.rest;
            chain = t.below;
            enough = omega (arith, x.enough);
            back = λ r w. x.back r (subst (λ (k : ℕ). Walked bytes array P k x.rest r) e (subst (λ (ts : List ℕ). Walked bytes array P (suc (left - 1)) ts r) (sym t.here) (f (left - 1) t.rest r w)));
          }

      -- it does
      pub decides : 0 < left → (r : Option ℕ) → ((t : Top m x.rest) → Walked bytes array P (suc (left - 1)) (tag_at (m - 1) ∷ t.rest) r) → Walked bytes array P n tags r
      decides h r f =
          let t = last h in
          let e : suc (left - 1) ≡ left = omega arith in
          x.back r (subst (λ (k : ℕ). Walked bytes array P k x.rest r) e (subst (λ (ts : List ℕ). Walked bytes array P (suc (left - 1)) ts r) (sym t.here) (f t)))

      -- none is left
      pub ends : left ≡ 0 → P [] → Walked bytes array P n tags (Some m)
      ends e p = x.back (Some m) (subst (λ (k : ℕ). Walked bytes array P k x.rest (Some m)) (sym e) (Walked.from p x.chain))

      pub ends_other : left ≡ 0 → (P [] → ⊥) → Walked bytes array P n tags None
      ends_other e p = x.back None (subst (λ (k : ℕ). Walked bytes array P k x.rest None) (sym e) (Walked.other p))

  -- ── Each of a sort ──────────────────────────────────────────────────────────────────────────────

  each_tail : {sort tag : ℕ} {tags : List ℕ} → Each sort (tag ∷ tags) → Each sort tags
  each_tail (Each.more i e) = e

  each_head : {sort tag : ℕ} {tags : List ℕ} → Each sort (tag ∷ tags) → is_a tag sort ≡ true
  each_head (Each.more i e) = i

  pub each_more : {sort tag : ℕ} → is_a tag sort ≡ true → (l : ℕ) (rest : List ℕ) (r : Option ℕ) → Walked bytes array (Each sort) l rest r
      → Walked bytes array (Each sort) (suc l) (tag ∷ rest) r
  each_more i l rest r (Walked.from e c) = Walked.from (Each.more i e) c
  each_more i l rest r (Walked.other n) = Walked.other (λ e. n (each_tail e))

  pub each_not : {sort tag : ℕ} {l : ℕ} {rest : List ℕ} → is_a tag sort ≡ false → Walked bytes array (Each sort) (suc l) (tag ∷ rest) None
  each_not i = Walked.other (λ e. no_true (each_head e) i)

  -- ── One field ───────────────────────────────────────────────────────────────────────────────────

  field_no_bind : is_a FIELD 6 ≡ true → ⊥
  unfolding is_a sort_of code wide_code
  field_no_bind e = no_true e refl

  field-first : {tags : List ℕ} → OneField (FIELD ∷ tags) → Each 6 tags
  field-first (OneField.here e) = e
  field-first (OneField.before i o) = absurd (field_no_bind i)

  is_field : {tag : ℕ} {tags : List ℕ} → tag ≡ FIELD → OneField (tag ∷ tags) → Each 6 tags
  is_field {tag} {tags} e o = field-first (subst (λ (t : ℕ). OneField (t ∷ tags)) e o)

  pub field_then : {tag l : ℕ} {rest : List ℕ} {r : Option ℕ} → tag ≡ FIELD → Walked bytes array (Each 6) l rest r → Walked bytes array OneField (suc l) (tag ∷ rest) r
  field_then {tag} {l} {rest} e (Walked.from x c) = Walked.from (subst (λ (t : ℕ). OneField (t ∷ take l rest)) (sym e) (OneField.here x)) c
  field_then e (Walked.other n) = Walked.other (λ o. n (is_field e o))

  not_field : {tag : ℕ} {tags : List ℕ} → (tag ≡ FIELD → ⊥) → OneField (tag ∷ tags) → (is_a tag 6 ≡ true) × OneField tags
  not_field n (OneField.here e) = absurd (n refl)
  not_field n (OneField.before i o) = (i, o)

  pub bind_more : {tag : ℕ} → (tag ≡ FIELD → ⊥) → is_a tag 6 ≡ true → (l : ℕ) (rest : List ℕ) (r : Option ℕ) → Walked bytes array OneField l rest r
      → Walked bytes array OneField (suc l) (tag ∷ rest) r
  bind_more n i l rest r (Walked.from o c) = Walked.from (OneField.before i o) c
  bind_more n i l rest r (Walked.other m) = Walked.other (λ o. m (not_field n o).1)

  pub bind_not : {tag l : ℕ} {rest : List ℕ} → (tag ≡ FIELD → ⊥) → is_a tag 6 ≡ false → Walked bytes array OneField (suc l) (tag ∷ rest) None
  bind_not n i = Walked.other (λ o. no_true (not_field n o).0 i)

  pub rest_enough : {P : List ℕ → Type 0} {n m left : ℕ} {tags : List ℕ} (x : Pending P n tags m left) (t : Top m x.rest) → left - 1 ≤ length t.rest
  rest_enough x t = omega (arith, x.enough, ap length t.here)

  -- ── Groups ──────────────────────────────────────────────────────────────────────────────────────

  group_comp : {tags : List ℕ} → Group COMP tags → OneField tags
  group_comp (Group.each n e) = absurd (n refl)
  group_comp (Group.comp o) = o

  pub comp_group : {sort n : ℕ} {tags : List ℕ} {r : Option ℕ} → sort ≡ COMP → Walked bytes array OneField n tags r → Walked bytes array (Group sort) n tags r
  comp_group {sort} {n} {tags} e (Walked.from o c) = Walked.from (subst (λ (s : ℕ). Group s (take n tags)) (sym e) (Group.comp o)) c
  comp_group {sort} {n} {tags} e (Walked.other m) = Walked.other (λ g. m (group_comp (subst (λ (s : ℕ). Group s (take n tags)) e g)))

  group_each : {sort : ℕ} {tags : List ℕ} → (sort ≡ COMP → ⊥) → Group sort tags → Each sort tags
  group_each m (Group.each n e) = e
  group_each m (Group.comp o) = absurd (m refl)

  pub each_group : {sort n : ℕ} {tags : List ℕ} {r : Option ℕ} → (sort ≡ COMP → ⊥) → Walked bytes array (Each sort) n tags r → Walked bytes array (Group sort) n tags r
  each_group m (Walked.from e c) = Walked.from (Group.each m e) c
  each_group m (Walked.other n) = Walked.other (λ g. n (group_each m g))

  -- ── Three groups ────────────────────────────────────────────────────────────────────────────────

  pub from_of : {P : List ℕ → Type 0} {n m : ℕ} {tags : List ℕ} → Walked bytes array P n tags (Some m) → P (take n tags) × Chain bytes array m (drop n tags)
  from_of (Walked.from p c) = (p, c)

  pub other_of : {P : List ℕ → Type 0} {n : ℕ} {tags : List ℕ} → Walked bytes array P n tags None → P (take n tags) → ⊥
  other_of (Walked.other n) = n

  module _ (a : Question) (tags : List ℕ) where
    pub fit_third : Walked bytes array (Group a.s3) a.n3 tags None → Fitted bytes array a tags None
    fit_third w = Fitted.other (λ f. other_of w f.third)

    pub fit_second : Walked bytes array (Group a.s2) a.n2 (drop a.n3 tags) None → Fitted bytes array a tags None
    fit_second w = Fitted.other (λ f. other_of w f.second)

    pub fit_first : {r : Option ℕ} → Group a.s3 (take a.n3 tags) → Group a.s2 (take a.n2 (drop a.n3 tags))
        → Walked bytes array (Group a.s1) a.n1 (drop a.n2 (drop a.n3 tags)) r → Fitted bytes array a tags r
    fit_first g h (Walked.from p c) = Fitted.from (record { third = g; second = h; first = p }) c
    fit_first g h (Walked.other n) = Fitted.other (λ f. n f.first)

-- `record`, answer by answer.
-- Assumes nothing.
use mathlib.Core.Path.{◌≡◌, refl, sym, ap, subst, ◌∙◌}
use mathlib.Core.Bool.{Bool, true, false, cond}
use mathlib.Core.List.{List, [], ◌∷◌, ◌++◌}
use Prim.Native.Nat.{ℕ, ◌+◌, ◌-◌, ◌*◌, ◌≤◌, ◌<◌}
use native.Mathlib.Nat.{min-le_left}
use native.Mathlib.Omega.{arith}
use lib.Dec.{eqb}
use lib.ListN.{length, drop, get_or, length-take, length-drop, replicate, length-append, length-replicate}
use Rattle.grammar.specs.Trees.{Field, Trees, tree, ◌⊕◌, count}
use Rattle.grammar.specs.Image.{entry, image}
use Rattle.grammar.specs.Tags.{INFIX}
use Rattle.grammar.specs.Layout.{Part, Layout, layout, unknown, layout_of, codes, numbers}
use Rattle.grammar.specs.Trees as trees
use Rattle.grammar.proofs.ImageLaws.{count-row, image-length}
use Rattle.images.specs.declared.parts.Parts.{Parts}
use Rattle.images.specs.declared.records.Age.{Age}
use Rattle.images.specs.declared.records.Next.{Next}
use Rattle.images.specs.declared.records.Wrong.{Wrong}
use Rattle.images.specs.declared.records.Wrong.TheVariants.{Missing, Underived}
use Rattle.std.proofs.Common.{Option, None, Some, Result, Ok, Err}
use Rattle.std.specs.Result.{IsErrAnd}
use Rattle.std.specs.Option.{ok_or}
use Rattle.images.proofs.PartWalk.{codes-length}
use Rattle.images.specs.Images.{Stands, More, dated}
use Rattle.images.specs.Images as images
use Rattle.images.specs.Inner.{two_at, Takes, Fails, Walks, Extends, age_code, dates, dated_row, asks, pops, beyond, Chain, Checks, Checked, Dating, State, Stepped, roots}
use Rattle.images.proofs.FormLaws.{values, words_of}
use Rattle.images.proofs.RowLaws.{tags, tags_count, roots_back, back_length, row_less}
use Rattle.images.proofs.StepLaws.{age_of, row_age}
use Rattle.images.proofs.EntryLaws.{Known, known as known-layout, entry_there}
use Rattle.images.proofs.HereLaws.{six, Here}
use Rattle.images.proofs.SumLaws.{sums}
use Rattle.images.proofs.LinkLaws.{pops-row}
use Rattle.images.proofs.DateLaws.{dating_more}
use Rattle.images.proofs.RecordLaws.{LayoutIs, fs, is_here, stands, taken, over_checks}

pub roots-length : (ts : Trees) → length (roots ts []) ≡ count ts
roots-length ts = ap length (roots_back ts []) ∙ (let l = back_length (tags ts) [] in omega (arith, l, tags_count ts))

pub walks_row : {bytes : List ℕ} {from end : ℕ} {row other : List ℕ} {p : Option Parts} → row ≡ other → Walks bytes from end row p → Walks bytes from end other p
walks_row {bytes} {from} {end} {p = p} e w = subst (λ (r : List ℕ). Walks bytes from end r p) e w

pub walks_bad : {bytes : List ℕ} {from end : ℕ} {codes : List ℕ} → Walks bytes from end codes None → Fails bytes end from codes
walks_bad (Walks.bad f) = f

pub record Walk (bytes : List ℕ) (from end : ℕ) (codes : List ℕ) (p : Parts) : Type 0 where
  pub vs : List ℕ
  pub takes : Takes bytes end from codes vs p.children
  pub values : p.values ≡ six vs

pub walks_good : {bytes : List ℕ} {from end : ℕ} {codes : List ℕ} {p : Parts} → Walks bytes from end codes (Some p) → Walk bytes from end codes p
walks_good {bytes} {from} {end} {codes} (Walks.good {vs = vs} t c v) = record { vs = vs; takes = subst (λ (n : ℕ). Takes bytes end from codes vs n) (sym c) t; values = v }

abbrev pub next : ℕ → ℕ → ℕ → Option Age → Result Next Wrong
next end first standing age = Ok (record { end = end; first = first; standing = standing; age = age })

module _ {bytes array : List ℕ} {at n standing age : ℕ} (small : (i : ℕ) → get_or bytes i 0 < 256) (inside : at < length bytes) (s : State bytes array at n standing age)
    {end : ℕ} (is_end : end ≡ at + 3 + two_at bytes (at + 1)) (within : end ≤ length bytes) (known : layout_of (get_or bytes at 0) ≡ unknown → ⊥) (k : LayoutIs (get_or bytes at 0))
    {vs : List ℕ} {m : ℕ} (t : Takes bytes end (at + 3) (drop 1 (dated_row (get_or bytes at 0) (dates (get_or bytes at 0) (end - at - 3) age))) vs m) where
  pub here : Here bytes at end (get_or bytes at 0) (age_of (dates (get_or bytes at 0) (end - at - 3) age)) vs m
  here = is_here small inside s is_end within k t

  pub is_missing : standing < here.own + m → Stepped bytes array at s.ts (Err Missing)
  is_missing h = Stepped.missing (stands small inside s is_end within k here) (omega (arith, s.opened))

  -- the checks fail
  same_tag : (x : More s.ts (drop at bytes)) → x.tag ≡ get_or bytes at 0
  same_tag x = (entry_there bytes at x.tag x.fields x.after (omega arith) x.here).tagged

  pub is_underived : here.own + m ≤ standing → (Checks bytes (get_or bytes at 0) end (six vs) (roots s.ts []) → ⊥) → Stepped bytes array at s.ts (Err Underived)
  is_underived h never = Stepped.underived (stands small inside s is_end within k here) (omega (arith, s.opened)) (λ x. never (by x.tag (same_tag x) x refl))
    where
      by : (g : ℕ) → g ≡ get_or bytes at 0 → (x : More s.ts (drop at bytes)) → x.tag ≡ g → Checks bytes (get_or bytes at 0) end (six vs) (roots s.ts [])
      by g e x q =
          let w = subst (λ (i : ℕ). images.Row x.age (x.us ⊕ tree i x.fields x.children)) (q ∙ e) x.row in
          let o = row_less x.age x.us x.children (get_or bytes at 0) x.fields w in
          over_checks small inside s is_end within k x.age x.fields x.us x.children x.after t x.roots
          (subst (λ (i : ℕ). drop at bytes ≡ entry i x.fields ++ x.after) (q ∙ e) x.here) o.0 o.1

  -- they hold
  pub is_next : {first : ℕ} → here.own + m ≤ standing → Checks bytes (get_or bytes at 0) end (six vs) (roots s.ts [])
      → Chain bytes array first (beyond (asks (get_or bytes at 0) (six vs)) (roots s.ts []))
      → first ≡ pops array n ((asks (get_or bytes at 0) (six vs)).n3 + ((asks (get_or bytes at 0) (six vs)).n2 + (asks (get_or bytes at 0) (six vs)).n1))
      → {kind : Option Age} → age_code kind ≡ dates (get_or bytes at 0) (end - at - 3) age → Stepped bytes array at s.ts (next end first (standing - (here.own + m) + 1) kind)
  is_next {first} h c ch lands {kind} kept =
      let tag = get_or bytes at 0 in
      let v = sym here.valued in
      let c' = subst (λ (w : List ℕ). Checks bytes tag end w (roots s.ts [])) v c in
      let x = taken small inside s is_end within k here known (omega (arith, s.opened)) c' in
      let ch' = subst (λ (w : List ℕ). Chain bytes array first (beyond (asks tag w) (roots s.ts []))) v ch in
      let l' = subst (λ (w : List ℕ). first ≡ pops array n ((asks tag w).n3 + ((asks tag w).n2 + (asks tag w).n1))) v lands in
      let a = asks tag (values (fs small inside s is_end within k here)) in
      let sum : a.n3 + (a.n2 + a.n1) ≡ count x.children = omega (arith, x.sum, x.many) in
      let stored = s.stored ∙ ap (λ (u : Trees). images.links 0 0 u ++ s.rest) x.whole in
      let f : first ≡ images.records x.us =
      l' ∙ ap (pops array n) sum ∙ ap (λ (i : ℕ). pops array i (count x.children)) (s.number ∙ ap images.records x.whole) ∙ pops-row (count x.children) array s.rest x.us x.children refl stored in
      let cr = ap count x.whole ∙ count-row x.us x.children in
      Stepped.next {x = record { end = end; first = first; standing = standing - (here.own + m) + 1; age = kind }} tag here.fields x.us x.children x.whole here.there here.ends f (omega (arith, s.opened, cr, x.many))
      (subst (λ (k : ℕ). Dating (x.us ⊕ tree tag here.fields x.children) k) (sym kept)
      (dating_more x.us x.children tag here.fields (end - at - 3) (subst (λ (u : Trees). Dating u age) x.whole s.dating)
      (subst (λ (u : Trees). images.Row (age_of (dates tag (end - at - 3) age)) u) x.whole (row_age tag (end - at - 3) s.dating)) x.over))
      (subst (λ (w : List ℕ). Chain bytes array first w) x.beyond ch')

-- ── What the functions of `record` say ────────────────────────────────────────────────────────────

pub ext_end : {bytes : List ℕ} {at e : ℕ} → Extends bytes at (Some e) → (e ≡ at + 3 + two_at bytes (at + 1)) × (e ≤ length bytes)
ext_end (Extends.end h) = (refl, h)

seven_numbers : (l : Layout) → Known l → length (numbers l) ≡ 7
unfolding numbers
seven_numbers unknown k = refl
seven_numbers (layout own ps) (Known.some h p q) = omega (arith, length-append (codes ps) (replicate (6 - length ps) 0), codes-length ps, length-replicate {A = ℕ} (6 - length ps) 0)

pub six_numbers : (tag kind : ℕ) → length (drop 1 (dated_row tag kind)) ≡ 6
unfolding dated_row
six_numbers tag kind = by (eqb tag INFIX) (eqb kind 1)
  where
    less_one : (l : List ℕ) → length l ≡ 7 → length (drop 1 l) ≡ 6
    less_one l e = omega (arith, e, length-drop 1 l)

    by : (b c : Bool) → length (drop 1 (cond b (cond c (2 ∷ 28 ∷ replicate 5 0) (numbers (layout_of tag))) (numbers (layout_of tag)))) ≡ 6
    by true true = refl
    by true false = less_one (numbers (layout_of tag)) (seven_numbers (layout_of tag) (known-layout tag))
    by false c = less_one (numbers (layout_of tag)) (seven_numbers (layout_of tag) (known-layout tag))

-- A tag's row, by its layout.
pub row_known : (tag : ℕ) {own : ℕ} {ps : List Part} → layout own ps ≡ layout_of tag → layout_of tag ≡ unknown → ⊥
row_known tag q e = let z = q ∙ e in cc

pub row_few : (tag : ℕ) {own : ℕ} {ps : List Part} → layout own ps ≡ layout_of tag → own ≤ 2
row_few tag {own} {ps} q = by own ps (subst Known (sym q) (known-layout tag))
  where
    by : (own : ℕ) (ps : List Part) → Known (layout own ps) → own ≤ 2
    by own ps (Known.some h p q) = h

pub row_own : (tag : ℕ) {own : ℕ} {ps : List Part} (n : ℕ) → layout own ps ≡ layout_of tag → own + n ≡ get_or (numbers (layout_of tag)) 0 0 + n
unfolding numbers
row_own tag n q = ap (λ (l : Layout). get_or (numbers l) 0 0 + n) q

-- The way out of a `?` behind `ok_or`.
pub refused_as : {A : Type 0} (o : Option A) {r : Result Next Wrong} {e w : Wrong} → IsErrAnd r (λ x. x ≡ e) → ◌≡◌ {A = Result A Wrong} (Err e) (ok_or o w) → r ≡ Err w
refused_as {A} o {r} {e} {w} h q = by o r q h
  where
    by : (o : Option A) (r : Result Next Wrong) → ◌≡◌ {A = Result A Wrong} (Err e) (ok_or o w) → IsErrAnd r (λ x. x ≡ e) → r ≡ Err w
    by (Some x) r q h = cc
    by None (Ok x) q h = absurd h
    by None (Err x) q h = let z : e ≡ w = cc in ap Err (h ∙ z)

-- All that is known of a record once its parts are taken.
pub record Ready (bytes : List ℕ) (at age end : ℕ) (p : Parts) : Type 0 where
  pub small : (i : ℕ) → get_or bytes i 0 < 256
  pub inside : at < length bytes
  pub known : layout_of (get_or bytes at 0) ≡ unknown → ⊥
  pub layout : LayoutIs (get_or bytes at 0)
  pub is_end : end ≡ at + 3 + two_at bytes (at + 1)
  pub within : end ≤ length bytes
  pub walk : Walk bytes (at + 3) end (drop 1 (dated_row (get_or bytes at 0) (dates (get_or bytes at 0) (end - at - 3) age))) p

module _ {bytes array : List ℕ} {at n standing age end : ℕ} {p : Parts} (r : Ready bytes at age end p) (s : State bytes array at n standing age) where
  abbrev pub record_here : Here bytes at end (get_or bytes at 0) (age_of (dates (get_or bytes at 0) (end - at - 3) age)) r.walk.vs p.children
  record_here = here r.small r.inside s r.is_end r.within r.known r.layout r.walk.takes

  pub told_children : get_or (numbers (layout_of (get_or bytes at 0))) 0 0 + p.children ≡ record_here.own + p.children
  told_children = ap (λ (i : ℕ). i + p.children) record_here.first

  pub ready_missing : {k : ℕ} → k ≡ get_or (numbers (layout_of (get_or bytes at 0))) 0 0 + p.children → standing < k → Stepped bytes array at s.ts (Err Missing)
  ready_missing e h = is_missing r.small r.inside s r.is_end r.within r.known r.layout r.walk.takes (omega (arith, told_children))

  pub ready_underived : {k : ℕ} → k ≡ get_or (numbers (layout_of (get_or bytes at 0))) 0 0 + p.children → k ≤ standing
      → Checked bytes array (get_or bytes at 0) end p.values (roots s.ts []) None → Stepped bytes array at s.ts (Err Underived)
  ready_underived e h c =
      is_underived r.small r.inside s r.is_end r.within r.known r.layout r.walk.takes (omega (arith, told_children))
      (λ x. no_checks c (subst (λ (w : List ℕ). Checks bytes (get_or bytes at 0) end w (roots s.ts [])) (sym r.walk.values) x))
    where
      no_checks : {v tags : List ℕ} → Checked bytes array (get_or bytes at 0) end v tags None → Checks bytes (get_or bytes at 0) end v tags → ⊥
      no_checks (Checked.other f) = f

  -- what number 16 looks at is there: as many roots as are asked for, and the text
  pub ready_sums : (asks (get_or bytes at 0) p.values).fine ≡ true
      → (asks (get_or bytes at 0) p.values).n3 + (asks (get_or bytes at 0) p.values).n2 + (asks (get_or bytes at 0) p.values).n1 ≡ get_or (numbers (layout_of (get_or bytes at 0))) 0 0 + p.children
  ready_sums f =
      let v = r.walk.values ∙ sym record_here.valued in
      let x = sums (get_or bytes at 0) r.known (dated (age_of (dates (get_or bytes at 0) (end - at - 3) age)) (get_or bytes at 0) record_here.fields) (record_here.own + p.children) record_here.told in
      ap (λ (w : List ℕ). (asks (get_or bytes at 0) w).n3 + (asks (get_or bytes at 0) w).n2 + (asks (get_or bytes at 0) w).n1) v
      ∙ x.0 (sym (ap (λ (w : List ℕ). (asks (get_or bytes at 0) w).fine) v) ∙ f) ∙ sym told_children

  pub ready_next : {k first : ℕ} → k ≡ get_or (numbers (layout_of (get_or bytes at 0))) 0 0 + p.children → k ≤ standing
      → Checked bytes array (get_or bytes at 0) end p.values (roots s.ts []) (Some first)
      → first ≡ pops array n ((asks (get_or bytes at 0) p.values).n3 + ((asks (get_or bytes at 0) p.values).n2 + (asks (get_or bytes at 0) p.values).n1))
      → {kind : Option Age} → age_code kind ≡ dates (get_or bytes at 0) (end - at - 3) age → Stepped bytes array at s.ts (next end first (standing - k + 1) kind)
  ready_next {k} {first} e h (Checked.from c ch) l {kind} kept =
      let w = r.walk.values in
      let q : standing - (record_here.own + p.children) + 1 ≡ standing - k + 1 = omega (arith, told_children, e) in
      subst (λ (i : ℕ). Stepped bytes array at s.ts (next end first i kind)) q
      (is_next r.small r.inside s r.is_end r.within r.known r.layout r.walk.takes (omega (arith, told_children, e))
      (subst (λ (v : List ℕ). Checks bytes (get_or bytes at 0) end v (roots s.ts [])) w c)
      (subst (λ (v : List ℕ). Chain bytes array first (beyond (asks (get_or bytes at 0) v) (roots s.ts []))) w ch)
      (subst (λ (v : List ℕ). first ≡ pops array n ((asks (get_or bytes at 0) v).n3 + ((asks (get_or bytes at 0) v).n2 + (asks (get_or bytes at 0) v).n1))) w l) kept)

  pub ready_size : (asks (get_or bytes at 0) p.values).size ≤ end
  ready_size =
      let v = r.walk.values ∙ sym record_here.valued in
      let fs' = dated (age_of (dates (get_or bytes at 0) (end - at - 3) age)) (get_or bytes at 0) record_here.fields in
      let x = sums (get_or bytes at 0) r.known fs' (record_here.own + p.children) record_here.told in
      let n = length (words_of fs') in
      let l = length-take (end - (end - n)) (drop (end - n) bytes) in
      omega (arith, ap (λ (w : List ℕ). (asks (get_or bytes at 0) w).size) v, x.1, ap length record_here.words, l, min-le_left (end - (end - n)) (length (drop (end - n) bytes)))

-- A row has no more trees than a third of its bytes.
pub count-image : (ts : Trees) → count ts * 3 ≤ length (image ts)
unfolding count
count-image trees.none = omega arith
count-image (trees.node tag fields children ts) = omega (arith, image-length tag fields children ts, count-image ts)

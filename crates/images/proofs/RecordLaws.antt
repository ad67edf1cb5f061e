-- What becomes of the next record: each answer of `record` by what its functions found.
-- Assumes nothing.
use mathlib.Core.Path.{◌≡◌, refl, sym, ap, subst, ◌∙◌}
use mathlib.Core.Bool.{Bool, true, false, cond}
use mathlib.Core.List.{List, [], ◌∷◌, ◌++◌, map}
use Prim.Native.Nat.{ℕ, suc, ◌+◌, ◌-◌, ◌≤◌, ◌<◌}
use native.Mathlib.Omega.{arith}
use lib.Dec.{T, eqb}
use lib.ListN.{length, drop, get_or}
use borrow.Author.Tests.{eqb-true, eqb-false, eq-eqb, ne_eqb}
use Rattle.grammar.specs.Tags.{INFIX}
use Rattle.grammar.specs.Trees.{Field, byte, number, span, text, Trees, ◌⊕◌, count}
use Rattle.grammar.specs.Image.{entry}
use Rattle.grammar.specs.Layout.{Part, Layout, layout, unknown, layout_of, Laid, over, a_span, a_text, a_count, a_flag, a_slice, a_byte, Tells}
use Rattle.grammar.specs.Records.{Fits}
use Rattle.grammar.proofs.LayoutLaws.{form_laid}
use Rattle.grammar.proofs.Spanned.{forwards}
use Rattle.std.proofs.Common.{None}
use Rattle.images.specs.Images.{Age, old, new, dated, Row, Stands}
use Rattle.images.specs.Inner.{two_at, tail_part, Gets, Takes, Fails, Extends, dates, dated_row, asks, forward, sort_of, Worded, Fit, Checks, State, roots}
use Rattle.images.proofs.PartLaws.{proper, gets_equal, takes_fails}
use Rattle.images.proofs.EntryLaws.{Known, known, Entry, entry_there}
use Rattle.images.proofs.FormLaws.{values, form_asked}
use Rattle.images.proofs.FormBack.{makes}
use Rattle.images.proofs.FitLaws.{plain_fits, comp_fits, fits_wanted, three, beyond_all}
use Rattle.images.proofs.SumLaws.{sums}
use Rattle.images.proofs.SpanLaws.{Small, small_laid, values_below, forward_of, forward_is, forward_fields}
use Rattle.images.proofs.RowLaws.{tags, tags_count, roots_back, roots-row, back, part-row, Over, dated_other}
use Rattle.images.proofs.StepLaws.{age_of, row_age, row_plain, row_old, told_laid}
use Rattle.images.proofs.HereLaws.{six, Here, here-plain, here_old, found}

-- ── The layout of a known tag ─────────────────────────────────────────────────────────────────────

pub record LayoutIs (tag : ℕ) : Type 0 where
  pub own : ℕ
  pub ps : List Part
  pub is : layout_of tag ≡ layout own ps
  pub right : T (proper ps)
  pub few : length ps ≤ 6

pub layout_is : (tag : ℕ) → (layout_of tag ≡ unknown → ⊥) → LayoutIs tag
layout_is tag n = by (layout_of tag) refl (known tag)
  where
    by : (l : Layout) → layout_of tag ≡ l → Known l → LayoutIs tag
    by unknown e k = absurd (n e)
    by (layout own ps) e (Known.some h p q) = record { own = own; ps = ps; is = e; right = p; few = q }

laid_count : {ps : List Part} {fs : List Field} {n : ℕ} → Laid ps fs n → length fs ≡ length ps
laid_count over = refl
laid_count (a_span l) = ap suc (laid_count l)
laid_count a_text = refl
laid_count (a_count l) = ap suc (laid_count l)
laid_count (a_flag h l) = ap suc (laid_count l)
laid_count (a_slice h l) = ap suc (laid_count l)
laid_count (a_byte h l) = ap suc (laid_count l)

told_count : (tag : ℕ) {fs : List Field} {n : ℕ} → LayoutIs tag → Tells (layout_of tag) fs n → length fs ≤ 6
told_count tag {fs} {n} k t =
    let l = told_laid (subst (λ (y : Layout). Tells y fs n) k.is t) in
    omega (arith, laid_count l.1, k.few)

-- ── The record at a place ─────────────────────────────────────────────────────────────────────────

module _ {bytes array : List ℕ} {at n standing age : ℕ} (small : (i : ℕ) → get_or bytes i 0 < 256) (inside : at < length bytes) (s : State bytes array at n standing age) where
  abbrev tag : ℕ
  tag = get_or bytes at 0

  pub is_cut : Extends bytes at None → (k : ℕ) → Stands s.ts (drop at bytes) tag k → ⊥
  is_cut x k st = by x
    where
      there : Entry bytes at tag st.fields st.after
      there = entry_there bytes at tag st.fields st.after (omega arith) st.here

      by : Extends bytes at None → ⊥
      by (Extends.cut_header h) = omega (arith, there.within)
      by (Extends.cut_payload h g) = omega (arith, there.within, there.sized)

  module _ {end : ℕ} (is_end : end ≡ at + 3 + two_at bytes (at + 1)) (within : end ≤ length bytes) (k : LayoutIs tag) where
    abbrev kind : ℕ
    kind = dates tag (end - at - 3) age

    pub is_bad : Fails bytes end (at + 3) (drop 1 (dated_row tag kind)) → (m : ℕ) → Stands s.ts (drop at bytes) tag m → ⊥
    is_bad f m st = takes_fails (found bytes small at end inside is_end within s.dating k.is st).takes f

    pub is_here : {vs : List ℕ} {m : ℕ} → Takes bytes end (at + 3) (drop 1 (dated_row tag kind)) vs m → Here bytes at end tag (age_of kind) vs m
    unfolding age_of dated
    is_here {vs} {m} t = by (eqb tag INFIX) refl (eqb kind 1) refl
      where
        as_old : kind ≡ 1 → Here bytes at end tag old vs m → Here bytes at end tag (age_of kind) vs m
        as_old e h = subst (λ (g : Age). Here bytes at end tag g vs m) (sym (rw (eq-eqb kind 1 e))) h

        plain : (tag ≡ INFIX → kind ≡ 1 → ⊥) → ((fs : List Field) → dated (age_of kind) tag fs ≡ fs) → Here bytes at end tag (age_of kind) vs m
        plain q d = here-plain bytes small at end inside is_end within (age_of kind) k.ps k.is k.right d (subst (λ (l : List ℕ). Takes bytes end (at + 3) l vs m) (row_plain tag kind k.own k.ps k.is q) t)

        new_is : (kind ≡ 1 → ⊥) → (fs : List Field) → dated (age_of kind) tag fs ≡ fs
        new_is q fs = ap (λ (b : Bool). dated (cond b old new) tag fs) (ne_eqb kind 1 q)

        by : (b : Bool) → eqb tag INFIX ≡ b → (c : Bool) → eqb kind 1 ≡ c → Here bytes at end tag (age_of kind) vs m
        by true p true q = as_old (eqb-true kind 1 q) (here_old bytes small at end inside is_end within (eqb-true tag INFIX p) (subst (λ (l : List ℕ). Takes bytes end (at + 3) l vs m) (row_old tag kind (eqb-true tag INFIX p) (eqb-true kind 1 q)) t))
        by true p false q = plain (λ i e. eqb-false kind 1 q e) (new_is (eqb-false kind 1 q))
        by false p c q = plain (λ i e. eqb-false tag INFIX p i) (λ fs. dated_other (age_of kind) tag fs (eqb-false tag INFIX p))

    module _ {vs : List ℕ} {m : ℕ} (h : Here bytes at end tag (age_of kind) vs m) where
      pub stands : Stands s.ts (drop at bytes) tag (h.own + m)
      stands = record { age = age_of kind; row = row_age tag (end - at - 3) s.dating; fields = h.fields; after = drop end bytes; here = h.there; told = h.told }

      abbrev pub fs : List Field
      fs = dated (age_of kind) tag h.fields

      -- ── The checks hold ─────────────────────────────────────────────────────────────────────────

      pub record Taken : Type 0 where
        pub us : Trees
        pub children : Trees
        pub whole : s.ts ≡ us ⊕ children
        pub many : count children ≡ h.own + m
        pub over : Over (age_of kind) tag h.fields children
        pub beyond : drop (asks tag (values fs)).n1 (drop (asks tag (values fs)).n2 (drop (asks tag (values fs)).n3 (roots s.ts []))) ≡ roots us []
        pub sum : (asks tag (values fs)).n3 + (asks tag (values fs)).n2 + (asks tag (values fs)).n1 ≡ h.own + m

      pub taken : (layout_of tag ≡ unknown → ⊥) → h.own + m ≤ count s.ts → Checks bytes tag end (values fs) (roots s.ts []) → Taken
      taken known-tag enough c =
          let a = asks tag (values fs) in
          let p = part-row s.ts (h.own + m) (count s.ts - (h.own + m)) (omega arith) in
          let xs = tags p.cs in
          let l = roots p.us [] in
          let r : roots s.ts [] ≡ back xs l = ap (λ (t : Trees). roots t []) p.whole ∙ roots-row p.us p.cs [] ∙ roots_back p.cs l in
          let sm = sums tag known-tag fs (h.own + m) h.told in
          let sum = sm.0 c.fine in
          let len : length xs ≡ a.n1 + (a.n2 + a.n3) = omega (arith, tags_count p.cs, p.many, sum) in
          let fit = subst (λ (w : List ℕ). Fit a w) r c.fit in
          let fw = forward_fields fs (6 - length fs) (λ i b. forward_is (values fs) c.forwards i (omega (arith, told_count tag k h.told))) in
          let w = subst (λ (u : List ℕ). Worded a.text u) (ap (λ (i : ℕ). tail_part i end bytes) sm.1 ∙ h.words) c.worded in
          let made = makes (λ ws. Fits (map sort_of xs) ws) tag known-tag fs (h.own + m) h.told fw c.fine w (plain_fits a xs l len fit) (λ e n2 s2 s3. comp_fits a xs l len fit e n2 s2 s3) in
          record {
            us = p.us;
            children = p.cs;
            whole = p.whole;
            many = p.many;
            over = record { sort = sort_of tag; wanted = made.wanted; form = made.form; fits = made.kept };
            beyond = ap (λ (w : List ℕ). drop a.n1 (drop a.n2 (drop a.n3 w))) r ∙ beyond_all a xs l (three xs a.n1 a.n2 a.n3 len);
            sum = sum;
          }

-- ── The checks of a record that may stand there ───────────────────────────────────────────────────

takes_at : {bytes : List ℕ} {end i j n : ℕ} {cs vs : List ℕ} → i ≡ j → Takes bytes end i cs vs n → Takes bytes end j cs vs n
takes_at {bytes} {end} {n = n} {cs} {vs} e t = subst (λ (i : ℕ). Takes bytes end i cs vs n) e t

-- The same from two places that are equal: they are matched apart.
takes_alike : {bytes : List ℕ} {end at at' n m : ℕ} {cs vs ws : List ℕ} → Takes bytes end at cs vs n → Takes bytes end at' cs ws m → at ≡ at' → vs ≡ ws
takes_alike Takes.over Takes.over q = refl
takes_alike Takes.over (Takes.more z g t) q = absurd (z refl)
takes_alike Takes.last Takes.last q = refl
takes_alike (Takes.more z g t) Takes.over q = absurd (z refl)
takes_alike {bytes} {end} (Takes.more {v = v} {next = next} {k = k} {c = c} z g t) (Takes.more {vs = us} y f u) q =
    let e = gets_equal (subst (λ (i : ℕ). Gets bytes i end c v next k) q g) f in
    ap (λ (l : List ℕ). v ∷ l) (takes_alike t u (sym e.0)) ∙ ap (λ (i : ℕ). i ∷ us) e.1

takes_same : {bytes : List ℕ} {end at n m : ℕ} {cs vs ws : List ℕ} → Takes bytes end at cs vs n → Takes bytes end at cs ws m → vs ≡ ws
takes_same x y = takes_alike x y refl

dated_small : (of : Age) (tag : ℕ) (fields : List Field) → Small fields → Small (dated of tag fields)
unfolding dated
dated_small old tag fields s = by (eqb tag INFIX)
  where
    onto : (gs : List Field) → Small gs → Small (gs ++ span 0 0 ∷ [])
    onto [] g = (omega arith, tt)
    onto (byte b ∷ gs) g = (g.0, onto gs g.1)
    onto (number b ∷ gs) g = (g.0, onto gs g.1)
    onto (span a e ∷ gs) g = (g.0, onto gs g.1)
    onto (text w ∷ gs) g = (g.0, onto gs g.1)

    by : (b : Bool) → Small (cond b (fields ++ span 0 0 ∷ []) fields)
    by true = onto fields s
    by false = s
dated_small new tag fields s = s

module _ {bytes array : List ℕ} {at n standing age : ℕ} (small : (i : ℕ) → get_or bytes i 0 < 256) (inside : at < length bytes) (s : State bytes array at n standing age)
    {end : ℕ} (is_end : end ≡ at + 3 + two_at bytes (at + 1)) (within : end ≤ length bytes) (k : LayoutIs (get_or bytes at 0)) where
  -- the record that More speaks of is the one that stands here
  pub over_checks : {vs : List ℕ} {m : ℕ} (of : Age) (fields : List Field) (us children : Trees) (after : List ℕ)
      → Takes bytes end (at + 3) (drop 1 (dated_row (get_or bytes at 0) (dates (get_or bytes at 0) (end - at - 3) age))) vs m
      → s.ts ≡ us ⊕ children → drop at bytes ≡ entry (get_or bytes at 0) fields ++ after → Over of (get_or bytes at 0) fields children → Row of (us ⊕ children)
      → Checks bytes (get_or bytes at 0) end (six vs) (roots s.ts [])
  over_checks {vs} of fields us children after t whole here o row =
      let tag = get_or bytes at 0 in
      let st : Stands s.ts (drop at bytes) tag _ = record { age = of; row = subst (λ (u : Trees). Row of u) (sym whole) row; fields = fields; after = after; here = here; told = form_laid o.form } in
      let f = found bytes small at end inside is_end within s.dating k.is st in
      let v : values (dated of tag fields) ≡ six vs = f.valued ∙ ap six (takes_same f.takes t) in
      let q = form_asked o.form in
      let sm = small_laid bytes small end within (at + 3) (omega arith) (omega (arith, small (at + 1), small (at + 1 + 1))) f.laying f.paying in
      let fo : forward (values (dated of tag fields)) ≡ true = forward_of (values (dated of tag fields)) (values_below (dated of tag fields) (6 - length (dated of tag fields)) (dated_small of tag fields sm) (forwards o.form).0) in
      let r : back (tags children) (roots us []) ≡ roots s.ts [] = sym (ap (λ (u : Trees). roots u []) whole ∙ roots-row us children [] ∙ roots_back children (roots us [])) in
      subst (λ (w : List ℕ). Checks bytes tag end w (roots s.ts [])) v (record {
        forwards = fo;
        fine = q.fine;
        worded = subst (λ (u : List ℕ). Worded (asks tag (values (dated of tag fields))).text u) (sym (ap (λ (i : ℕ). tail_part i end bytes) q.size ∙ f.words)) q.text;
        fit = subst (λ (u : List ℕ). Fit (asks tag (values (dated of tag fields))) u) r (fits_wanted (asks tag (values (dated of tag fields))) (tags children) (roots us []) q.wanted o.fits);
      })

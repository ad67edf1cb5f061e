-- The record that stands at a place, as the walk over its parts finds it.
-- Assumes nothing.
use mathlib.Core.Path.{◌≡◌, refl, sym, ap, subst, ◌∙◌}
use mathlib.Core.Bool.{Bool, true, false}
use mathlib.Core.List.{List, [], ◌∷◌, ◌++◌, map}
use Prim.Native.Nat.{ℕ, suc, ◌+◌, ◌-◌, ◌≤◌, ◌<◌}
use native.Mathlib.Omega.{arith}
use lib.Dec.{T, eqb}
use lib.ListN.{length, take, drop, get_or, replicate}
use lib.Seq.{slice, length-slice}
use borrow.Author.Tests.{eqb-true, eqb-false, eq-eqb}
use Rattle.grammar.specs.Tags.{INFIX}
use Rattle.grammar.specs.Trees.{Field, span, Trees}
use Rattle.grammar.specs.Image.{payload, entry}
use Rattle.grammar.specs.Layout.{Part, place, below, Layout, layout, layout_of, Laid, over, a_span, a_text, a_count, a_flag, a_slice, a_byte, Tells, tells, code, codes, numbers}
use Rattle.grammar.proofs.ImageLaws.{entry_length}
use Rattle.images.specs.Images.{Age, old, new, dated, Row, Stands}
use Rattle.images.specs.Inner.{span_value, two_at, tail_part, Takes, Dating, dates, dated_row}
use Rattle.images.proofs.PartLaws.{value, proper, cut, two_cut, takes_laid, laid_takes}
use Rattle.images.proofs.CodeLaws.{part_slice}
use Rattle.images.proofs.EntryLaws.{Entry, entry_there, there_entry}
use Rattle.images.proofs.FormLaws.{values, words_of}
use Rattle.images.proofs.RowLaws.{dated_other}
use Rattle.images.proofs.StepLaws.{kind_old, kind_new, row_plain, row_old, infix_layout, told_laid, OldFields, old_fields, byte_laid, zero_laid, new_length}

-- Values in six numbers.
abbrev pub six : List ℕ → List ℕ
six vs = vs ++ replicate (6 - length vs) 0

values_six : (fs : List Field) → values fs ≡ six (map value fs)
values_six fs = ap (λ (n : ℕ). map value fs ++ replicate (6 - n) 0) (sym (mapped fs))
  where
    mapped : (gs : List Field) → length (map value gs) ≡ length gs
    mapped [] = refl
    mapped (g ∷ gs) = ap suc (mapped gs)

module _ (bytes : List ℕ) (small : (i : ℕ) → get_or bytes i 0 < 256) (end : ℕ) (within : end ≤ length bytes) where
  -- The text is the last bytes of the payload.
  pub laid_words : {ps : List Part} {fs : List Field} {n : ℕ} (a : ℕ) → a ≤ end → Laid ps fs n → payload fs ≡ slice a end bytes → tail_part (length (words_of fs)) end bytes ≡ words_of fs
  unfolding payload words_of
  laid_words a le over e = let z : end - (end - 0) ≡ 0 = omega arith in ap (λ (n : ℕ). take n (drop (end - 0) bytes)) z
  laid_words a le (a_span {a = i} {e = j} l) e =
      let x = two_cut bytes end within small a e in
      let y = two_cut bytes end within small (a + 2) x.2 in
      laid_words (a + 2 + 2) y.0 l y.2
  laid_words a le (a_text {w = w}) e =
      let k : length w ≡ end - a = ap length e ∙ length-slice a end bytes within in
      let q : end - length w ≡ a = omega arith in
      ap (λ (i : ℕ). take (end - i) (drop i bytes)) q ∙ part_slice bytes a end le ∙ sym e
  laid_words a le (a_count l) e = let x = two_cut bytes end within small a e in laid_words (a + 2) x.0 l x.2
  laid_words a le (a_flag h l) e = let x = cut bytes end within a e in laid_words (a + 1) (omega (arith, x.0)) l x.2
  laid_words a le (a_slice h l) e = let x = cut bytes end within a e in laid_words (a + 1) (omega (arith, x.0)) l x.2
  laid_words a le (a_byte h l) e = let x = cut bytes end within a e in laid_words (a + 1) (omega (arith, x.0)) l x.2

-- Its fields, and what the walk took.
pub record Here (bytes : List ℕ) (at end tag : ℕ) (age : Age) (vs : List ℕ) (n : ℕ) : Type 0 where
  pub fields : List Field
  pub there : drop at bytes ≡ entry tag fields ++ drop end bytes
  pub ends : end ≡ at + length (entry tag fields)
  pub own : ℕ
  pub first : get_or (numbers (layout_of tag)) 0 0 ≡ own
  pub told : Tells (layout_of tag) (dated age tag fields) (own + n)
  pub valued : values (dated age tag fields) ≡ six vs
  pub words : tail_part (length (words_of (dated age tag fields))) end bytes ≡ words_of (dated age tag fields)

module _ (bytes : List ℕ) (small : (i : ℕ) → get_or bytes i 0 < 256) (at end : ℕ) (tagged : at < length bytes) (is_end : end ≡ at + 3 + two_at bytes (at + 1)) (within : end ≤ length bytes) where
  abbrev tag : ℕ
  tag = get_or bytes at 0

  paid_length : (fs : List Field) → payload fs ≡ slice (at + 3) end bytes → length (payload fs) ≡ end - (at + 3)
  paid_length fs p = ap length p ∙ length-slice (at + 3) end bytes within

  at_end : (fs : List Field) → payload fs ≡ slice (at + 3) end bytes → end ≡ at + length (entry tag fs)
  at_end fs p = omega (arith, entry_length tag fs, paid_length fs p)

  there_is : (fs : List Field) → payload fs ≡ slice (at + 3) end bytes → drop at bytes ≡ entry tag fs ++ drop end bytes
  there_is fs p = there_entry bytes small at end fs is_end within p (paid_length fs p)

  -- any record but an old infix
  pub here-plain : {vs : List ℕ} {n own : ℕ} (age : Age) (ps : List Part) → layout_of tag ≡ layout own ps → T (proper ps) → ((fs : List Field) → dated age tag fs ≡ fs)
      → Takes bytes end (at + 3) (codes ps ++ replicate (6 - length ps) 0) vs n → Here bytes at end tag age vs n
  unfolding numbers
  here-plain {vs} {n} {own} age ps e p d t =
      let x = takes_laid bytes end within small ps (6 - length ps) p t in
      let q = d x.fields in
      let le : at + 3 ≤ end = omega arith in
      record {
        fields = x.fields;
        there = there_is x.fields x.paid;
        ends = at_end x.fields x.paid;
        own = own;
        first = ap (λ (l : Layout). get_or (numbers l) 0 0) e;
        told = subst (λ (l : Layout). Tells l (dated age tag x.fields) (own + n)) (sym e) (subst (λ (fs : List Field). Tells (layout own ps) fs (own + n)) (sym q) (tells x.laid));
        valued = ap values q ∙ values_six x.fields ∙ ap six x.valued;
        words = subst (λ (fs : List Field). tail_part (length (words_of fs)) end bytes ≡ words_of fs) (sym q) (laid_words bytes small end within (at + 3) le x.laid x.paid);
      }

  dated_old : (fs : List Field) → tag ≡ INFIX → dated old tag fs ≡ fs ++ span 0 0 ∷ []
  unfolding dated
  dated_old fs e = rw (eq-eqb tag INFIX e)

  old_laid : (fs : List Field) → OldFields fs → Laid (below 20 ∷ place ∷ []) (fs ++ span 0 0 ∷ []) 0
  old_laid fs o = subst (λ (gs : List Field). Laid (below 20 ∷ place ∷ []) (gs ++ span 0 0 ∷ []) 0) (sym o.whole) (a_byte o.few (a_span over))

  old_values : (fs : List Field) → OldFields fs → values (fs ++ span 0 0 ∷ []) ≡ six (map value fs)
  unfolding value span_value
  old_values fs o = ap (λ (gs : List Field). values (gs ++ span 0 0 ∷ [])) o.whole ∙ ap (λ (gs : List Field). six (map value gs)) (sym o.whole)

  old_words : (fs : List Field) → OldFields fs → words_of (fs ++ span 0 0 ∷ []) ≡ []
  unfolding words_of
  old_words fs o = ap (λ (gs : List Field). words_of (gs ++ span 0 0 ∷ [])) o.whole

  pub here_old : {vs : List ℕ} {n : ℕ} → tag ≡ INFIX → Takes bytes end (at + 3) (28 ∷ replicate 5 0) vs n → Here bytes at end tag old vs n
  unfolding codes code proper numbers
  here_old {vs} {n} e t =
      let x = takes_laid bytes end within small (below 20 ∷ []) 5 tt t in
      let o = byte_laid x.laid in
      let q = dated_old x.fields e in
      let w = old_words x.fields o.0 in
      let z : 2 + 0 ≡ 2 + n = omega (arith, o.1) in
      let k : tail_part 0 end bytes ≡ [] = let z : end - (end - 0) ≡ 0 = omega arith in ap (λ (i : ℕ). take i (drop (end - 0) bytes)) z in
      record {
        fields = x.fields;
        there = there_is x.fields x.paid;
        ends = at_end x.fields x.paid;
        own = 2;
        first = ap (λ (t : ℕ). get_or (numbers (layout_of t)) 0 0) e ∙ ap (λ (l : Layout). get_or (numbers l) 0 0) infix_layout;
        told = subst (λ (i : ℕ). Tells (layout_of tag) (dated old tag x.fields) i) z
            (subst (λ (l : Layout). Tells l (dated old tag x.fields) (2 + 0)) (sym (ap layout_of e ∙ infix_layout)) (subst (λ (fs : List Field). Tells (layout 2 (below 20 ∷ place ∷ [])) fs (2 + 0)) (sym q) (tells (old_laid x.fields o.0))));
        valued = ap values q ∙ old_values x.fields o.0 ∙ ap six x.valued;
        words = subst (λ (fs : List Field). tail_part (length (words_of fs)) end bytes ≡ words_of fs) (sym q) (ap (λ (l : List ℕ). tail_part (length l) end bytes) w ∙ k ∙ sym w);
      }

  -- ── What stands there is found ──────────────────────────────────────────────────────────────────

  pub record Found (age : ℕ) (own : ℕ) (of : Age) (fields : List Field) (n : ℕ) : Type 0 where
    pub vs : List ℕ
    pub told : ℕ
    pub takes : Takes bytes end (at + 3) (drop 1 (dated_row tag (dates tag (end - at - 3) age))) vs told
    pub valued : values (dated of tag fields) ≡ six vs
    pub sum : own + told ≡ n
    pub words : tail_part (length (words_of (dated of tag fields))) end bytes ≡ words_of (dated of tag fields)
    pub laid : List Part
    pub laying : Laid laid fields told
    pub paying : payload fields ≡ slice (at + 3) end bytes

  takes_as : {cs ds vs : List ℕ} {n : ℕ} → cs ≡ ds → Takes bytes end (at + 3) ds vs n → Takes bytes end (at + 3) cs vs n
  takes_as {vs = vs} {n} e t = subst (λ (l : List ℕ). Takes bytes end (at + 3) l vs n) (sym e) t

  module _ {ts : Trees} {n age own : ℕ} {ps : List Part} (dating : Dating ts age) (e : layout_of tag ≡ layout own ps) (s : Stands ts (drop at bytes) tag n) where
    stood : Entry bytes at tag s.fields s.after
    stood = entry_there bytes at tag s.fields s.after (omega arith) s.here

    paid : payload s.fields ≡ slice (at + 3) end bytes
    paid = let x = stood in let q : at + 3 + length (payload s.fields) ≡ end = omega (arith, x.sized) in x.paid ∙ ap (λ (i : ℕ). slice (at + 3) i bytes) q

    size : end - at - 3 ≡ length (payload s.fields)
    size = omega (arith, stood.sized)

    found_plain : (tag ≡ INFIX → dates tag (end - at - 3) age ≡ 1 → ⊥) → dated s.age tag s.fields ≡ s.fields → Found age own s.age s.fields n
    found_plain k q =
        let l = told_laid (subst (λ (y : Layout). Tells y (dated s.age tag s.fields) n) e s.told) in
        let m = subst (λ (fs : List Field). Laid ps fs l.0) q l.1 in
        record {
          vs = map value s.fields;
          told = l.0;
          takes = takes_as (row_plain tag (dates tag (end - at - 3) age) own ps e k) (laid_takes bytes end within small (6 - length ps) (at + 3) (omega arith) m paid);
          valued = ap values q ∙ values_six s.fields;
          sum = l.2;
          words = subst (λ (fs : List Field). tail_part (length (words_of fs)) end bytes ≡ words_of fs) (sym q) (laid_words bytes small end within (at + 3) (omega arith) m paid);
          laid = ps;
          laying = m;
          paying = paid;
        }

    same_layout : tag ≡ INFIX → layout own ps ≡ layout 2 (below 20 ∷ place ∷ [])
    same_layout i = sym e ∙ ap layout_of i ∙ infix_layout

    own_is : tag ≡ INFIX → own ≡ 2
    own_is i = cc (same_layout i)

    found_old : tag ≡ INFIX → s.age ≡ old → Found age own s.age s.fields n
    unfolding codes code value payload
    found_old i a =
        let l = told_laid (subst (λ (y : Layout). Tells y (dated old tag s.fields) n) (e ∙ same_layout i) (subst (λ (g : Age). Tells (layout_of tag) (dated g tag s.fields) n) a s.told)) in
        let m = subst (λ (fs : List Field). Laid (below 20 ∷ place ∷ []) fs l.0) (dated_old s.fields i) l.1 in
        let o = old_fields s.fields m in
        let one : length (payload s.fields) ≡ 1 = one_byte s.fields o in
        let k = kind_old tag (end - at - 3) i (size ∙ one) dating (subst (λ (g : Age). Row g ts) a s.row) in
        let b = subst (λ (fs : List Field). Laid (below 20 ∷ []) fs 0) (sym o.whole) (a_byte o.few over) in
        record {
          vs = map value s.fields;
          told = 0;
          takes = takes_as (row_old tag (dates tag (end - at - 3) age) i k) (laid_takes bytes end within small 5 (at + 3) (omega arith) b paid);
          valued = ap (λ (g : Age). values (dated g tag s.fields)) a ∙ ap values (dated_old s.fields i) ∙ old_values s.fields o;
          sum = omega (arith, l.2, zero_laid m, own_is i);
          words = subst (λ (fs : List Field). tail_part (length (words_of fs)) end bytes ≡ words_of fs) (sym (ap (λ (g : Age). dated g tag s.fields) a ∙ dated_old s.fields i)) (ap (λ (l : List ℕ). tail_part (length l) end bytes) (old_words s.fields o) ∙ nothing ∙ sym (old_words s.fields o));
          laid = below 20 ∷ [];
          laying = b;
          paying = paid;
        }
      where
        nothing : tail_part 0 end bytes ≡ []
        nothing = let z : end - (end - 0) ≡ 0 = omega arith in ap (λ (j : ℕ). take j (drop (end - 0) bytes)) z

        one_byte : (fs : List Field) → OldFields fs → length (payload fs) ≡ 1
        one_byte fs o = ap (λ (gs : List Field). length (payload gs)) o.whole

    found_new : tag ≡ INFIX → s.age ≡ new → Found age own s.age s.fields n
    unfolding dated
    found_new i a =
        let l = told_laid (subst (λ (y : Layout). Tells y s.fields n) (e ∙ same_layout i) (subst (λ (g : Age). Tells (layout_of tag) (dated g tag s.fields) n) a s.told)) in
        let five = new_length l.1 in
        let k = kind_new tag (end - at - 3) i (λ q. omega (arith, size, five)) dating (subst (λ (g : Age). Row g ts) a s.row) in
        found_plain (λ j q. omega (arith, k, q)) (ap (λ (g : Age). dated g tag s.fields) a)

    pub found : Found age own s.age s.fields n
    found = by (eqb tag INFIX) refl s.age refl
      where
        by : (b : Bool) → eqb tag INFIX ≡ b → (g : Age) → s.age ≡ g → Found age own s.age s.fields n
        by true q old a = found_old (eqb-true tag INFIX q) a
        by true q new a = found_new (eqb-true tag INFIX q) a
        by false q g a = found_plain (λ i k. eqb-false tag INFIX q i) (dated_other s.age tag s.fields (eqb-false tag INFIX q))

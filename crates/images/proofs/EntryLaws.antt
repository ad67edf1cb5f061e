-- A record's bytes: tag, two bytes of length, payload; and the layout of its tag.
-- Assumes nothing.
use mathlib.Core.Path.{◌≡◌, refl, sym, ap, ◌∙◌}
use mathlib.Core.Bool.{Bool, true, false, cond, ◌&&◌}
use mathlib.Core.List.{List, [], ◌∷◌, ◌++◌}
use Prim.Native.Nat.{ℕ, suc, ◌+◌, ◌-◌, ◌*◌, ◌≤◌, ◌<◌}
use native.Mathlib.Omega.{arith}
use lib.Dec.{T, eqb, leb, leb→le}
use lib.ListN.{length, take, drop, get_or, length-append, length-drop, take-append-drop}
use lib.Seq.{slice, drop-drop, take_at, drop_at}
use Rattle.strings.proofs.Stores.{drop-next}
use Rattle.grammar.specs.Trees.{Field}
use Rattle.grammar.specs.Image.{two, payload, entry}
use Rattle.grammar.specs.Layout.{Part, Layout, layout, unknown, Row, row, rows, layout_in, layout_of, numbers}
use Rattle.grammar.proofs.Chosen.{and_left, and_right}
use Rattle.images.specs.Inner.{two_at}
use Rattle.images.proofs.PartLaws.{proper, two_back, two_is}
use Rattle.images.proofs.CodeLaws.{part_slice}

-- ── Layouts of the table ──────────────────────────────────────────────────────────────────────────

pub data Known : Layout → Type 0 where
  none : Known unknown
  some : {own : ℕ} {ps : List Part} → own ≤ 2 → T (proper ps) → length ps ≤ 6 → Known (layout own ps)

unfoldable all_known : List Row → Bool
all_known [] = true
all_known (row k own ps ∷ rs) = (leb own 2 && (proper ps && leb (length ps) 6)) && all_known rs

known_in : (tag : ℕ) (rs : List Row) → T (all_known rs) → Known (layout_in tag rs)
unfolding layout_in all_known
known_in tag [] h = Known.none
known_in tag (row k own ps ∷ rs) h = by (eqb tag k) (known_in tag rs (and_right (leb own 2 && (proper ps && leb (length ps) 6)) (all_known rs) h))
  where
    here : T (leb own 2 && (proper ps && leb (length ps) 6))
    here = and_left (leb own 2 && (proper ps && leb (length ps) 6)) (all_known rs) h

    by : (b : Bool) → Known (layout_in tag rs) → Known (cond b (layout own ps) (layout_in tag rs))
    by true k' =
        let i = and_right (leb own 2) (proper ps && leb (length ps) 6) here in
        Known.some (leb→le own 2 (and_left (leb own 2) (proper ps && leb (length ps) 6) here)) (and_left (proper ps) (leb (length ps) 6) i) (leb→le (length ps) 6 (and_right (proper ps) (leb (length ps) 6) i))
    by false k' = k'

pub known : (tag : ℕ) → Known (layout_of tag)
unfolding layout_of rows all_known proper
known tag = known_in tag rows tt

-- the first number of a row: 255 for no record
pub first_unknown : (l : Layout) → Known l → get_or (numbers l) 0 0 ≡ 255 → l ≡ unknown
unfolding numbers
first_unknown unknown k e = refl
first_unknown (layout own ps) (Known.some h p q) e = absurd (omega arith)

pub first_known : (l : Layout) → (get_or (numbers l) 0 0 ≡ 255 → ⊥) → l ≡ unknown → ⊥
unfolding numbers
first_known l n e = n (ap (λ (m : Layout). get_or (numbers m) 0 0) e)

-- ── Bytes ─────────────────────────────────────────────────────────────────────────────────────────

abbrev head : List ℕ → ℕ
head [] = 0
head (x ∷ xs) = x

abbrev tail : List ℕ → List ℕ
tail [] = []
tail (x ∷ xs) = xs

module _ (bytes : List ℕ) where
  -- what follows a payload
  after_payload : (a e : ℕ) → a ≤ e → e ≤ length bytes → drop a bytes ≡ slice a e bytes ++ drop e bytes
  after_payload a e h l =
      let q : a + (e - a) ≡ e = omega arith in
      sym (take-append-drop (e - a) (drop a bytes)) ∙ ap (λ (r : List ℕ). r ++ drop (e - a) (drop a bytes)) (part_slice bytes a e h)
      ∙ ap (λ (r : List ℕ). slice a e bytes ++ r) (drop-drop (e - a) a bytes ∙ ap (λ (i : ℕ). drop i bytes) q)

  next : (i : ℕ) → i < length bytes → drop i bytes ≡ get_or bytes i 0 ∷ drop (i + 1) bytes
  next i h = drop-next bytes i h

  three : (at : ℕ) → at + 3 ≤ length bytes → drop at bytes ≡ get_or bytes at 0 ∷ get_or bytes (at + 1) 0 ∷ get_or bytes (at + 2) 0 ∷ drop (at + 3) bytes
  three at h =
      let a : at + 1 + 1 ≡ at + 2 = omega arith in
      let b : at + 2 + 1 ≡ at + 3 = omega arith in
      next at (omega arith) ∙ ap (λ (l : List ℕ). get_or bytes at 0 ∷ l)
      (next (at + 1) (omega arith) ∙ ap (λ (l : List ℕ). get_or bytes (at + 1) 0 ∷ l)
      (ap (λ (i : ℕ). drop i bytes) a ∙ next (at + 2) (omega arith) ∙ ap (λ (i : ℕ). get_or bytes (at + 2) 0 ∷ drop i bytes) b))

  -- A record stands there.
  pub record Entry (at tag : ℕ) (fields : List Field) (after : List ℕ) : Type 0 where
    pub within : at + 3 + length (payload fields) ≤ length bytes
    pub tagged : tag ≡ get_or bytes at 0
    pub sized : two_at bytes (at + 1) ≡ length (payload fields)
    pub paid : payload fields ≡ slice (at + 3) (at + 3 + length (payload fields)) bytes
    pub follows : after ≡ drop (at + 3 + length (payload fields)) bytes

  pub entry_there : (at tag : ℕ) (fields : List Field) (after : List ℕ) → at ≤ length bytes → drop at bytes ≡ entry tag fields ++ after → Entry at tag fields after
  unfolding entry
  entry_there at tag fields after le e =
      let p = payload fields in
      let n = length p in
      let l : length bytes - at ≡ suc (suc (suc (length (p ++ after)))) = sym (length-drop at bytes) ∙ ap length e in
      let m = length-append p after in
      let h : at + 3 + n ≤ length bytes = omega arith in
      let q = sym (three at (omega arith)) ∙ e in
      let r : drop (at + 3) bytes ≡ p ++ after = ap (λ (w : List ℕ). tail (tail (tail w))) q in
      let s = after_payload (at + 3) (at + 3 + n) (omega arith) h in
      let t : slice (at + 3) (at + 3 + n) bytes ++ drop (at + 3 + n) bytes ≡ p ++ after = sym s ∙ r in
      let i : at + 1 + 1 ≡ at + 2 = omega arith in
      let k : length (slice (at + 3) (at + 3 + n) bytes) ≡ n = omega (arith, ap length t, length-append (slice (at + 3) (at + 3 + n) bytes) (drop (at + 3 + n) bytes), length-drop (at + 3 + n) bytes) in
      record {
        within = h;
        tagged = sym (ap head q);
        sized = ap (λ (j : ℕ). get_or bytes (at + 1) 0 * 256 + get_or bytes j 0) i ∙ two_is n (get_or bytes (at + 1) 0) (get_or bytes (at + 2) 0) (sym (ap (λ (w : List ℕ). head (tail w)) q)) (sym (ap (λ (w : List ℕ). head (tail (tail w))) q));
        paid = sym (take_at p after n refl) ∙ ap (take n) (sym t) ∙ take_at (slice (at + 3) (at + 3 + n) bytes) (drop (at + 3 + n) bytes) n k;
        follows = sym (drop_at p after n refl) ∙ ap (drop n) (sym t) ∙ drop_at (slice (at + 3) (at + 3 + n) bytes) (drop (at + 3 + n) bytes) n k;
      }

  pub there_entry : (small : (i : ℕ) → get_or bytes i 0 < 256) (at end : ℕ) (fields : List Field) → end ≡ at + 3 + two_at bytes (at + 1) → end ≤ length bytes
      → payload fields ≡ slice (at + 3) end bytes → length (payload fields) ≡ end - (at + 3) → drop at bytes ≡ entry (get_or bytes at 0) fields ++ drop end bytes
  unfolding entry
  there_entry small at end fields e h p l =
      let i : at + 1 + 1 ≡ at + 2 = omega arith in
      let n : length (payload fields) ≡ get_or bytes (at + 1) 0 * 256 + get_or bytes (at + 2) 0 = omega (arith, ap (λ (j : ℕ). get_or bytes j 0) i) in
      let t : two (length (payload fields)) ≡ get_or bytes (at + 1) 0 ∷ get_or bytes (at + 2) 0 ∷ [] = ap two n ∙ two_back (get_or bytes (at + 1) 0) (get_or bytes (at + 2) 0) (small (at + 2)) in
      three at (omega arith)
      ∙ ap (λ (w : List ℕ). get_or bytes at 0 ∷ get_or bytes (at + 1) 0 ∷ get_or bytes (at + 2) 0 ∷ w) (after_payload (at + 3) end (omega arith) h ∙ ap (λ (w : List ℕ). w ++ drop end bytes) (sym p))
      ∙ ap (λ (w : List ℕ). get_or bytes at 0 ∷ (w ++ (payload fields ++ drop end bytes))) (sym t)

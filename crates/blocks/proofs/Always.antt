-- Every source has an answer at every place: the bytes after any `|||` are a good block or have one of the four faults.
-- Assumes nothing.
use mathlib.Core.Path.{◌≡◌, sym, ◌∙◌, ap, subst}
use mathlib.Core.Bool.{Bool}
use mathlib.Core.List.{List, [], ◌∷◌, ◌++◌, List-discrete, nil≢cons, head-eq_of_cons-eq}
use mathlib.Core.Logic.{◌⊎◌, inl, inr, ⊎_elim}
use Prim.Native.Nat.{ℕ, zero, suc, ◌+◌, ◌-◌, ◌≤◌}
use native.Mathlib.Omega.{arith}
use native.Mathlib.Decide.{ℕ_discrete}
use lib.ListN.{length, take, drop, length-append, length-drop, take-append-drop}
use lib.Seq.{take-append_seam}
use Rattle.blocks.specs.Blocks.{Run, stop, more, LineFeed, HeaderBlank, Blank, InLine, Dash, there, Header, header, Indent, first, Lines, empty, content, Other, NoBars, Sought, here, on, Found, good, unexpected_end, missing_new_line, missing_indent, missing_termination, Closing, closed, blank, failing, Last, another, cut, Body, no_indent, indented, Stands, no_line, no_new_line, after_header, ends, Block, BlockAt, a_good, an_unexpected_end, a_missing_new_line, a_missing_indent, a_missing_termination}
use Rattle.blocks.proofs.Runs.{stable, run_stops, run_length}
use Rattle.blocks.proofs.Once.{stands_length}

either : {A B : Type 0} → Dec A → Dec B → Dec (A ⊎ B)
either (yes a) e = yes (inl a)
either (no h) (yes b) = yes (inr b)
either (no h) (no g) = no (⊎_elim h g)

neither : {A : Type 0} → Dec A → Dec (A → ⊥)
neither (yes a) = no (λ h. h a)
neither (no h) = yes h

run_always : (P : ℕ → Type 0) → ((b : ℕ) → Dec (P b)) → (s : List ℕ) → (l : List ℕ) × (r : List ℕ) × Run P s l r
run_always P dec [] = ([], [], Run.end)
run_always P dec (b ∷ s) = by (dec b) (run_always P dec s)
  where
    by : Dec (P b) → (l : List ℕ) × (r : List ℕ) × Run P s l r → (l : List ℕ) × (r : List ℕ) × Run P (b ∷ s) l r
    by (yes p) d = (b ∷ d.0, d.1, more p d.2)
    by (no h) d = ([], b ∷ s, stop h)

-- whether bytes start with others
starts : (i s : List ℕ) → ((r : List ℕ) × (s ≡ i ++ r)) ⊎ ((r : List ℕ) → s ≡ i ++ r → ⊥)
starts i s = by (List-discrete ℕ_discrete (take (length i) s) i)
  where
    by : Dec (take (length i) s ≡ i) → ((r : List ℕ) × (s ≡ i ++ r)) ⊎ ((r : List ℕ) → s ≡ i ++ r → ⊥)
    by (yes e) = inl (drop (length i) s, sym (take-append-drop (length i) s) ∙ ap (λ (t : List ℕ). t ++ drop (length i) s) e)
    by (no h) = inr (λ r e. h (ap (take (length i)) e ∙ take-append_seam i r))

bars : List ℕ
bars = 0x7C ∷ 0x7C ∷ 0x7C ∷ []

sought_always : (s : List ℕ) → (r : List ℕ) × Sought s r
unfolding bars
sought_always [] = ([], Sought.end)
sought_always (b ∷ s) = by (starts bars (b ∷ s)) (sought_always s)
  where
    by : ((r : List ℕ) × (b ∷ s ≡ bars ++ r)) ⊎ NoBars (b ∷ s) → (r : List ℕ) × Sought s r → (r : List ℕ) × Sought (b ∷ s) r
    by (inl f) d = (f.0, subst (λ (t : List ℕ). Sought t f.0) (sym f.1) here)
    by (inr h) d = (d.0, on h d.1)

closing_always : (ls : List (List ℕ)) (s : List ℕ) → (f : Found) × (r : List ℕ) × Closing ls s f r
unfolding bars
closing_always ls [] = (unexpected_end, [], blank)
closing_always ls (b ∷ s) = by (starts bars (b ∷ s))
  where
    by : ((r : List ℕ) × (b ∷ s ≡ bars ++ r)) ⊎ NoBars (b ∷ s) → (f : Found) × (r : List ℕ) × Closing ls (b ∷ s) f r
    by (inl f) = (good ls, f.0, subst (λ (t : List ℕ). Closing ls t (good ls) f.0) (sym f.1) closed)
    by (inr h) = let d = sought_always (b ∷ s) in (missing_termination, d.0, failing h d.1)

-- Lines up to a last line, whatever stood before them.
module _ (b : ℕ) (i : List ℕ) where
  Read : List ℕ → Type 0
  Read s = (ls : List (List ℕ)) × (t : List ℕ) × Lines (b ∷ i) s ls t × ((ms : List (List ℕ)) → (f : Found) × (r : List ℕ) × Last (b ∷ i) ms t f r)

  -- a line that is neither empty nor content
  other_read : (s : List ℕ) → Other (b ∷ i) s → Read s
  unfolding Read
  other_read s o =
      let d = run_always Blank (λ x. either (ℕ_discrete x 0x20) (ℕ_discrete x 0x09)) s in
      ([], s, Lines.none, λ ms. let k = closing_always ms d.1 in (k.0, k.1, another o d.2 k.2))

  empty_read : (s : List ℕ) → Read s → Read (0x0A ∷ s)
  unfolding Read
  empty_read s d = ([] ∷ d.0, d.1, empty d.2, d.3)

  -- a content line, with or without LF
  content_read :
      (n : ℕ) (s t l r : List ℕ) → length s ≤ suc n → s ≡ (b ∷ i) ++ t → Run InLine t l r → ((u : List ℕ) → length u ≤ n → Read u) → Read s
  unfolding Read
  content_read n s t l [] h e q further = ([], s, Lines.none, λ ms. (unexpected_end, [], cut e q))
  content_read n s t l (x ∷ u) h e q further =
      let short : length u ≤ n = omega (arith, ap length e, length-append (b ∷ i) t, run_length q) in
      let feed : x ≡ 0x0A = stable x 0x0A (run_stops q) in
      let d = further u short in
      (l ∷ d.0, d.1, content e (subst (λ (y : ℕ). Run InLine t l (y ∷ u)) feed q) d.2, d.3)

  no_byte : Other (b ∷ i) []
  no_byte = record { not_empty = λ r e. nil≢cons e; not_content = λ r e. nil≢cons e }

  lines_always : (n : ℕ) (s : List ℕ) → length s ≤ n → Read s
  lines_always zero [] h = other_read [] no_byte
  lines_always zero (x ∷ s) h = absurd (omega arith)
  lines_always (suc n) [] h = other_read [] no_byte
  lines_always (suc n) (x ∷ s) h = by (ℕ_discrete x 0x0A) (starts (b ∷ i) (x ∷ s)) (lines_always n)
    where
      by :
          Dec (x ≡ 0x0A) → ((r : List ℕ) × (x ∷ s ≡ (b ∷ i) ++ r)) ⊎ ((r : List ℕ) → x ∷ s ≡ (b ∷ i) ++ r → ⊥) →
          ((u : List ℕ) → length u ≤ n → Read u) → Read (x ∷ s)
      by (yes e) t further = subst (λ (y : ℕ). Read (y ∷ s)) (sym e) (empty_read s (further s (omega arith)))
      by (no g) (inl t) further =
          let d = run_always InLine (λ y. neither (ℕ_discrete y 0x0A)) t.0 in
          content_read n (x ∷ s) t.0 d.0 d.1 h t.1 d.2 further
      by (no g) (inr k) further = other_read (x ∷ s) (record { not_empty = λ r e. g (head-eq_of_cons-eq e); not_content = k })

body_always : (s : List ℕ) → (f : Found) × (r : List ℕ) × Body s f r
unfolding Read
body_always s =
    let e = run_always LineFeed (λ x. ℕ_discrete x 0x0A) s in
    let d = run_always Blank (λ x. either (ℕ_discrete x 0x20) (ℕ_discrete x 0x09)) e.1 in
    by e.1 d.0 (first e.2 d.2)
  where
    by : (line i : List ℕ) → Indent s line i → (f : Found) × (r : List ℕ) × Body s f r
    by line [] d = let k = sought_always line in (missing_indent, k.0, no_indent d k.1)
    by line (b ∷ i) d =
        let l = lines_always b i (length s) s (omega arith) in
        let k = l.3 l.0 in
        (k.0, k.1, indented d l.2 k.2)

dash_always : (s : List ℕ) → (d : Bool) × (r : List ℕ) × Dash s d r
dash_always [] = (_, _, Dash.end)
dash_always (b ∷ s) = by (ℕ_discrete b 0x2D)
  where
    by : Dec (b ≡ 0x2D) → (d : Bool) × (r : List ℕ) × Dash (b ∷ s) d r
    by (yes e) = subst (λ (x : ℕ). (d : Bool) × (r : List ℕ) × Dash (x ∷ s) d r) (sym e) (_, _, there)
    by (no h) = (_, _, Dash.other h)

pub stands_always : (s : List ℕ) → (f : Found) × (r : List ℕ) × Stands s f r
stands_always s =
    let d = dash_always s in
    let p = run_always HeaderBlank (λ x. either (ℕ_discrete x 0x20) (either (ℕ_discrete x 0x09) (ℕ_discrete x 0x0D))) d.1 in
    by d.0 p.1 (header d.2 p.2)
  where
    by : (d : Bool) (t : List ℕ) → Header s d t → (f : Found) × (r : List ℕ) × Stands s f r
    by d [] h = (unexpected_end, [], no_line h)
    by d (b ∷ t) h = feed (ℕ_discrete b 0x0A)
      where
        feed : Dec (b ≡ 0x0A) → (f : Found) × (r : List ℕ) × Stands s f r
        feed (yes e) =
            let k = body_always t in
            (k.0, k.1, after_header (subst (λ (x : ℕ). Header s d (x ∷ t)) e h) k.2)
        feed (no g) = let k = sought_always t in (missing_new_line, k.0, no_new_line h g k.1)

pub block_always : (s : List ℕ) (at : ℕ) → (b : Block) × BlockAt s at b
block_always s at = let d = stands_always (drop at s) in by d.0 d.1 d.2
  where
    by : (f : Found) (r : List ℕ) → Stands (drop at s) f r → (b : Block) × BlockAt s at b
    by f r d =
        let place : (length s - length r) + length r ≡ length s = omega (arith, stands_length d, length-drop at s) in
        of f d place
      where
        of : (f : Found) → Stands (drop at s) f r → (length s - length r) + length r ≡ length s → (b : Block) × BlockAt s at b
        of (good ls) d h = (_, a_good (ends d h))
        of unexpected_end d h = (_, an_unexpected_end (ends d h))
        of missing_new_line d h = (_, a_missing_new_line (ends d h))
        of missing_indent d h = (_, a_missing_indent (ends d h))
        of missing_termination d h = (_, a_missing_termination (ends d h))

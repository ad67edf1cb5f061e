-- What a good block says rests on its own bytes, whatever follows it: where the same bytes stand before another rest, the same block stands.
-- Assumes nothing.
use mathlib.Core.Path.{◌≡◌, refl, sym, ◌∙◌, ap, subst}
use mathlib.Core.Bool.{Bool}
use mathlib.Core.List.{List, [], ◌∷◌, ◌++◌, head-eq_of_cons-eq, tail-eq_of_cons-eq, append_cancel_left, append_assoc}
use mathlib.Core.Logic.{⊎_elim}
use Prim.Native.Nat.{ℕ, ◌-◌, ◌≤◌}
use native.Mathlib.Omega.{arith}
use lib.ListN.{length, take, drop, length-append, length-drop, take-append-drop}
use lib.Seq.{take-append_seam}
use Rattle.std.specs.Prelude.{Ok}
use Rattle.blocks.specs.Blocks.{Run, stop, more, LineFeed, Blank, InLine, Dash, there, Header, header, Indent, first, Lines, empty, content, Other, good, closed, Last, another, Body, indented, Stands, after_header, text, BlockText, means, ends, BlockAt, a_good}
use Rattle.blocks.proofs.Runs.{run_split, run_stops}
use Rattle.blocks.proofs.Once.{indent_blank}
use Rattle.blocks.proofs.Laws.{text_once}

-- ── Before another rest ───────────────────────────────────────────────────────────────────────────

-- What stands in s up to r stands so before any other rest.
pub record Alone (s r : List ℕ) (P : List ℕ → List ℕ → Type 0) : Type 0 where
  pub bytes : List ℕ
  pub are : s ≡ bytes ++ r
  pub before : (r' : List ℕ) → P (bytes ++ r') r'

-- A run, and behind it a byte that ends it and some bytes more.
run_to : {P : ℕ → Type 0} {s l v r : List ℕ} {b : ℕ} (k : List ℕ) → Run P s l v → v ≡ b ∷ (k ++ r) → Alone s r (λ s' r'. Run P s' l (b ∷ (k ++ r')))
run_to k Run.end e = cc
run_to {P} {b = b} k (stop {b = c} h) e =
    record { bytes = b ∷ k; are = e; before = λ r'. stop (subst (λ (x : ℕ). P x → ⊥) (head-eq_of_cons-eq e) h) }
run_to k (more {b = c} p d) e =
    let a = run_to k d e in
    record { bytes = c ∷ a.bytes; are = ap (λ (t : List ℕ). c ∷ t) a.are; before = λ r'. more p (a.before r') }

run_alone : {P : ℕ → Type 0} {s l r : List ℕ} {b : ℕ} (k : List ℕ) → Run P s l (b ∷ (k ++ r)) → Alone s r (λ s' r'. Run P s' l (b ∷ (k ++ r')))
run_alone k d = run_to k d refl

header_alone : {s r : List ℕ} {d : Bool} → Header s d (0x0A ∷ r) → Alone s r (λ s' r'. Header s' d (0x0A ∷ r'))
header_alone {r = r} (header {blanks = blanks} Dash.end p) = elim p [ ]
header_alone (header there p) =
    let a = run_alone [] p in
    record { bytes = 0x2D ∷ a.bytes; are = ap (λ (t : List ℕ). 0x2D ∷ t) a.are; before = λ r'. header there (a.before r') }
header_alone (header (Dash.other h) (stop g)) = record { bytes = 0x0A ∷ []; are = refl; before = λ r'. header (Dash.other h) (stop g) }
header_alone (header (Dash.other h) (more {b = c} p d)) =
    let a = run_alone [] d in
    record { bytes = c ∷ a.bytes; are = ap (λ (t : List ℕ). c ∷ t) a.are; before = λ r'. header (Dash.other h) (more p (a.before r')) }

-- ── The line that closes the block ────────────────────────────────────────────────────────────────

-- A run of blanks before a `|` that begins with other blanks does so without what follows.
within_blanks : {j q : List ℕ} (i l t x : List ℕ) → Run Blank j i q → l ++ 0x7C ∷ t ≡ i ++ x → (z : List ℕ) × (l ≡ i ++ z)
within_blanks [] l t x d e = (l, refl)
within_blanks (c ∷ i) [] t x (more p d) e = absurd (⊎_elim (λ h. omega (arith, h, head-eq_of_cons-eq e)) (λ h. omega (arith, h, head-eq_of_cons-eq e)) p)
within_blanks (c ∷ i) (b ∷ l) t x (more p d) e =
    let z = within_blanks i l t x d (tail-eq_of_cons-eq e) in
    let h = head-eq_of_cons-eq e in
    (z.0, cc (h, z.1))

not_feed : (l t x : List ℕ) → l ++ 0x7C ∷ t ≡ 0x0A ∷ x → (m : List ℕ) × (l ≡ 0x0A ∷ m)
not_feed [] t x e = absurd (omega (arith, head-eq_of_cons-eq e))
not_feed (b ∷ l) t x e = (l, ap (λ (c : ℕ). c ∷ l) (head-eq_of_cons-eq e))

-- Another line, before another rest.
other_alone : {i j q s s' l t t' : List ℕ} → Run Blank j i q → Run Blank s l (0x7C ∷ t) → Run Blank s' l (0x7C ∷ t') → Other i s → Other i s'
other_alone {i} {l = l} {t} {t'} d p p' o = record {
  not_empty = λ x e.
      let m = not_feed l t' x (sym (run_split p') ∙ e) in
      o.not_empty (m.0 ++ 0x7C ∷ t) (run_split p ∙ ap (λ (k : List ℕ). k ++ 0x7C ∷ t) m.1);
  not_content = λ x e.
      let z = within_blanks i l t' x d (sym (run_split p') ∙ e) in
      o.not_content (z.0 ++ 0x7C ∷ t) (run_split p ∙ ap (λ (k : List ℕ). k ++ 0x7C ∷ t) z.1 ∙ append_assoc i z.0 (0x7C ∷ t));
}

last_alone : {i j q s r : List ℕ} {ls ms : List (List ℕ)} → Run Blank j i q → Last i ls s (good ms) r → Alone s r (λ s' r'. Last i ls s' (good ms) r')
last_alone d (another o p closed) =
    let a = run_alone (0x7C ∷ 0x7C ∷ []) p in
    record { bytes = a.bytes; are = a.are; before = λ r'. another (other_alone d p (a.before r') o) (a.before r') closed }

-- ── The lines ─────────────────────────────────────────────────────────────────────────────────────

-- Lines, and what stands after them.
abbrev LinesThen : List ℕ → List (List ℕ) → (List ℕ → List ℕ → Type 0) → List ℕ → List ℕ → Type 0
LinesThen i ls Q s r = (t : List ℕ) × Lines i s ls t × Q t r

-- A line of content before them.
abbrev ContentThen : List ℕ → List ℕ → List (List ℕ) → (List ℕ → List ℕ → Type 0) → List ℕ → List ℕ → Type 0
ContentThen i line ls Q s r = (t : List ℕ) × (u : List ℕ) × (s ≡ i ++ t) × Run InLine t line (0x0A ∷ u) × LinesThen i ls Q u r

as_lines : (Q : List ℕ → List ℕ → Type 0) {i line s : List ℕ} {ls : List (List ℕ)} (r : List ℕ) → ContentThen i line ls Q s r → LinesThen i (line ∷ ls) Q s r
as_lines Q r z = (z.4.0, content z.2 z.3 z.4.1, z.4.2)

content_alone : {i s t line u r : List ℕ} {ls : List (List ℕ)} {Q : List ℕ → List ℕ → Type 0} → s ≡ i ++ t → Run InLine t line (0x0A ∷ u) → Alone u r (LinesThen i ls Q)
    → Alone s r (ContentThen i line ls Q)
content_alone {i} {r = r} e q a =
    let b = run_alone [] q in
    let whole : (x : List ℕ) → i ++ (b.bytes ++ a.bytes) ++ x ≡ i ++ (b.bytes ++ (a.bytes ++ x)) =
    λ x. append_assoc i (b.bytes ++ a.bytes) x ∙ ap (λ (k : List ℕ). i ++ k) (append_assoc b.bytes a.bytes x) in
    record {
      bytes = i ++ (b.bytes ++ a.bytes);
      are = e ∙ ap (λ (k : List ℕ). i ++ k) (b.are ∙ ap (λ (k : List ℕ). b.bytes ++ k) a.are) ∙ sym (whole r);
      before = λ r'. (_, _, whole r', b.before (a.bytes ++ r'), a.before r');
    }

lines_alone : {i s t r : List ℕ} {ls : List (List ℕ)} {Q : List ℕ → List ℕ → Type 0} → Lines i s ls t → Alone t r Q → Alone s r (LinesThen i ls Q)
lines_alone Lines.none a = record { bytes = a.bytes; are = a.are; before = λ r'. (_, Lines.none, a.before r') }
lines_alone (empty d) a =
    let b = lines_alone d a in
    record { bytes = 0x0A ∷ b.bytes; are = ap (λ (t : List ℕ). 0x0A ∷ t) b.are; before = λ r'. let z = b.before r' in (z.0, empty z.1, z.2) }
lines_alone {Q = Q} (content e q d) a =
    let b = content_alone e q (lines_alone d a) in
    record { bytes = b.bytes; are = b.are; before = λ r'. as_lines Q r' (b.before r') }

-- ── The indent ────────────────────────────────────────────────────────────────────────────────────

-- A run stops before these bytes.
data Stops (P : ℕ → Type 0) : List ℕ → Type 0 where
  stops : {b : ℕ} {t : List ℕ} → (P b → ⊥) → Stops P (b ∷ t)

run_again : {P : ℕ → Type 0} {s l r t : List ℕ} → Run P s l r → Stops P t → Run P (l ++ t) l t
run_again Run.end (stops h) = stop h
run_again (stop g) (stops h) = stop h
run_again (more p d) h = more p (run_again d h)

-- A line that no blank begins, before another rest.
line-stops : {t t' line u u' : List ℕ} → Run InLine t line (0x0A ∷ u) → Run InLine t' line (0x0A ∷ u') → ((b : ℕ) (x : List ℕ) → t ≡ b ∷ x → Blank b → ⊥) → Stops Blank t'
line-stops (stop g) (stop g') h = stops {b = 0x0A} (λ p. ⊎_elim (λ e. omega (arith, e)) (λ e. omega (arith, e)) p)
line-stops (more {b = b} p d) (more p' d') h = stops (h b _ refl)

-- An indent, the lines that have it, and what stands after them.
abbrev IndentedThen : List ℕ → List (List ℕ) → (List ℕ → List ℕ → Type 0) → List ℕ → List ℕ → Type 0
IndentedThen i ls Q s r = (line : List ℕ) × Indent s line i × LinesThen i ls Q s r

fed : {s line i : List ℕ} → Indent s line i → Indent (0x0A ∷ s) line i
fed (first e p) = first (more refl e) p

module _ {b : ℕ} {i r : List ℕ} {Q : List ℕ → List ℕ → Type 0} (no-feed : b ≡ 0x0A → ⊥) where
  -- The first line with the indent: no blank follows it there, and so none does before another rest.
  first_alone : {s q t line u : List ℕ} {ls : List (List ℕ)} → Run Blank s (b ∷ i) q → s ≡ b ∷ i ++ t → Run InLine t line (0x0A ∷ u) → Alone u r (LinesThen (b ∷ i) ls Q)
      → Alone s r (IndentedThen (b ∷ i) (line ∷ ls) Q)
  first_alone {s} {q} {t} {line} {u} {ls} d e l a =
      let whole = content_alone e l a in
      record { bytes = whole.bytes; are = whole.are; before = λ r'. by r' (whole.before r') }
    where
      same : q ≡ t
      same = append_cancel_left (b ∷ i) q t (sym (run_split d) ∙ e)

      no_blank : (c : ℕ) (x : List ℕ) → t ≡ c ∷ x → Blank c → ⊥
      no_blank c x g = run_stops (subst (λ (k : List ℕ). Run Blank s (b ∷ i) k) (same ∙ g) d)

      indent : {s' : List ℕ} (t' : List ℕ) → s' ≡ b ∷ i ++ t' → Stops Blank t' → Indent s' s' (b ∷ i)
      indent {s'} t' g h = subst (λ (k : List ℕ). Indent k k (b ∷ i)) (sym g) (first (stop no-feed) (run_again d h))

      by : {s' : List ℕ} (r' : List ℕ) → ContentThen (b ∷ i) line ls Q s' r' → IndentedThen (b ∷ i) (line ∷ ls) Q s' r'
      by r' z = (_, indent z.0 z.2 (line-stops l z.3 no_blank), as_lines Q r' z)

  indented_alone : {s em line q t : List ℕ} {ls : List (List ℕ)} → Run LineFeed s em line → Run Blank line (b ∷ i) q → Lines (b ∷ i) s ls t → Other (b ∷ i) t → Alone t r Q
      → Alone s r (IndentedThen (b ∷ i) ls Q)
  indented_alone {q = q} {t = t} {ls = ls} Run.end p _ o a = elim p [ ]
  indented_alone (stop h) p Lines.none o a = absurd (o.not_content _ (run_split p))
  indented_alone (stop h) p (empty d) o a = absurd (h refl)
  indented_alone (stop h) p (content e l d) o a = first_alone p e l (lines_alone d a)
  indented_alone (more {s = x} g e) p Lines.none o a = absurd (o.not_empty x (ap (λ (c : ℕ). c ∷ x) g))
  indented_alone (more g e) p (empty d) o a =
      let z = indented_alone e p d o a in
      record { bytes = 0x0A ∷ z.bytes; are = ap (λ (x : List ℕ). 0x0A ∷ x) z.are; before = λ r'. let y = z.before r' in (y.0, fed y.1, (y.2.0, empty y.2.1, y.2.2)) }
  indented_alone (more g e) p (content c l d) o a = absurd (no-feed (sym (head-eq_of_cons-eq c) ∙ g))

-- ── The block ─────────────────────────────────────────────────────────────────────────────────────

body_alone : {s r : List ℕ} {ls : List (List ℕ)} → Body s (good ls) r → Alone s r (λ s' r'. Body s' (good ls) r')
body_alone (indented (first e p) l k) = by p (indented_alone (indent_blank (first e p)) e p l (others k) (last_alone p k))
  where
    others : {i s r : List ℕ} {ms ls : List (List ℕ)} → Last i ms s (good ls) r → Other i s
    others (another o d c) = o

    by : {b : ℕ} {i s r line q : List ℕ} {ms ls : List (List ℕ)} → Run Blank line (b ∷ i) q
        → Alone s r (IndentedThen (b ∷ i) ms (λ s' r'. Last (b ∷ i) ms s' (good ls) r')) → Alone s r (λ s' r'. Body s' (good ls) r')
    by p a = record { bytes = a.bytes; are = a.are; before = λ r'. let z = a.before r' in indented z.1 z.2.1 z.2.2 }

text_alone : {s r : List ℕ} {ls : List (List ℕ)} → Stands s (good ls) r → (w : List ℕ) × BlockText s w × Alone s r (λ s' r'. BlockText s' w)
text_alone {ls = ls} (after_header {dash = d} h b) =
    let x = header_alone h in
    let y = body_alone b in
    let whole : (r' : List ℕ) → x.bytes ++ y.bytes ++ r' ≡ x.bytes ++ (y.bytes ++ r') = λ r'. append_assoc x.bytes y.bytes r' in (
      _,
      means h b,
      record {
        bytes = x.bytes ++ y.bytes;
        are = x.are ∙ ap (λ (k : List ℕ). x.bytes ++ k) y.are ∙ sym (whole _);
        before = λ r'. subst (λ (k : List ℕ). BlockText k (text d ls)) (sym (whole r')) (means (x.before (y.bytes ++ r')) (y.before r'));
      },
    )

-- THE TEXT OF A GOOD BLOCK RESTS ON ITS OWN BYTES: where the same bytes stand in another source, they have the same text.
pub same_text : {s w : List ℕ} {a e : ℕ} (t : List ℕ) (b f : ℕ) → BlockAt s a (Ok e) → a ≤ length s → take (e - a) (drop a s) ≡ take (f - b) (drop b t) → BlockText (drop a s) w → BlockText (drop b t) w
same_text {s} {w} {a} {e} t b f (a_good (ends {r = r} d place)) h same m =
    let x = text_alone d in
    let y = x.2 in
    let n : length y.bytes ≡ e - a = omega (arith, place, h, ap length y.are, length-append y.bytes r, length-drop a s) in
    let own : y.bytes ≡ take (e - a) (drop a s) =
    sym (take-append_seam y.bytes r) ∙ ap (λ (k : ℕ). take k (y.bytes ++ r)) n ∙ ap (take (e - a)) (sym y.are) in
    let there : y.bytes ++ drop (f - b) (drop b t) ≡ drop b t =
    ap (λ (k : List ℕ). k ++ drop (f - b) (drop b t)) (own ∙ same) ∙ take-append-drop (f - b) (drop b t) in
    subst (λ (k : List ℕ). BlockText (drop b t) k) (text_once x.1 m) (subst (λ (k : List ℕ). BlockText k x.0) there (y.before (drop (f - b) (drop b t))))

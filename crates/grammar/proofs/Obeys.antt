-- Every tree that a derivation over worded lexemes gives obeys the table of records, spans and texts included, and has one root.
-- Assumes nothing.
use mathlib.Core.Path.{◌≡◌, refl, sym, ap, subst}
use mathlib.Core.Bool.{Bool, true, false, ◌&&◌, ◌||◌}
use mathlib.Core.List.{List, [], ◌∷◌, ◌++◌}
use Prim.Native.Nat.{ℕ, suc, ◌≤◌}
use native.Mathlib.Omega.{arith}
use lib.Dec.{T}
use lib.ListN.{length}
use Rattle.grammar.specs.Trees.{Trees, node, ◌⊕◌, count}
use Rattle.grammar.specs.Trees as trees
use Rattle.grammar.specs.Lexemes.{Lexeme, rest, kind_of, start_of, stop_of, Ranged}
use Rattle.grammar.specs.Productions.{Phrase, Body, row, Table, otherwise, ◌∣◌, rule}
use Rattle.grammar.specs.Reading.{has, choose, view, production, done, Reading, ended, gone, eaten, leafed, closed, subbed, deepened, Reads}
use Rattle.grammar.specs.Words.{Worded}
use Rattle.grammar.specs.Records.{Sort, Is, Fits, Spans, Obeys}
use Rattle.grammar.proofs.Tables.{moves, moved}
use Rattle.grammar.proofs.Chosen.{moved_chosen}
use Rattle.grammar.proofs.Possible.{next_possible, rest_worded}
use Rattle.grammar.proofs.Shapes.{exit, wherever, AfterFrom, Before, Keeps, KeepsAt, ◌also◌, KeepsAll, anywhere}
use Rattle.grammar.proofs.ShapesKept.{keeps}

-- ── Readings ──────────────────────────────────────────────────────────────────────────────────────

-- Where the next lexeme starts and stops.
pub next_range : {size : ℕ} {p : ℕ} {xs : List Lexeme} → Ranged size p xs → (p ≤ start_of p xs) × (start_of p xs ≤ stop_of p xs)
next_range (Ranged.none h) = (omega arith, omega arith)
next_range (Ranged.more a b c g) = (a, omega arith)

pub ranged_rest : {size : ℕ} {p : ℕ} {xs : List Lexeme} → Ranged size p xs → Ranged size (stop_of p xs) (rest xs)
ranged_rest (Ranged.none h) = Ranged.none h
ranged_rest (Ranged.more a b c g) = g

pub obeys_length : {q : Spans} {σs : List Sort} {ts : Trees} → Obeys q σs ts → length σs ≡ count ts
unfolding count
obeys_length Obeys.none = refl
obeys_length (Obeys.node f g h k) = ap suc (obeys_length k)

pub obeys_append : {q : Spans} {σs τs : List Sort} {ts us : Trees} → Obeys q σs ts → Obeys q τs us → Obeys q (σs ++ τs) (ts ⊕ us)
unfolding ◌⊕◌
obeys_append Obeys.none o = o
obeys_append (Obeys.node f g h k) o = Obeys.node f g h (obeys_append k o)

either : {C : Type 0} (a b : Bool) → T (a || b) → (T a → C) → (T b → C) → C
either true b h f g = f tt
either false b h f g = g h

module _ (prefix s : ℕ) where
  -- A reading never goes back, nor does the next lexeme.
  pub onward : {size : ℕ} {b : Body} {ts us : Trees} {d p r : ℕ} {xs ys : List Lexeme} → Reading prefix s b ts d p xs (done us r ys) → Ranged size p xs
      → (p ≤ r) × (stop_of p xs ≤ stop_of r ys) × Ranged size r ys
  onward ended g = (omega arith, omega arith, g)
  onward (gone x) g = onward x g
  onward (eaten e x) g = let h = onward x (ranged_rest g) in (omega (arith, h.0, next_range g), omega (arith, h.1, next_range (ranged_rest g)), h.2)
  onward (leafed x) g = let h = onward x (ranged_rest g) in (omega (arith, h.0, next_range g), omega (arith, h.1, next_range (ranged_rest g)), h.2)
  onward (closed x) g = onward x g
  onward (subbed x y) g = let h = onward x g in let k = onward y h.2 in (omega (arith, h.0, k.0), omega (arith, h.1, k.1), k.2)
  onward (deepened x y) g = let h = onward x g in let k = onward y h.2 in (omega (arith, h.0, k.0), omega (arith, h.1, k.1), k.2)

  moved_production : (q : Phrase) (p : ℕ) (xs : List Lexeme) (n : ℕ) → T (moves q) → T (moved (production prefix s q p xs n))
  unfolding production
  moved_production q p xs n h = moved_chosen prefix s q (view p xs n) h

  -- What surely takes a lexeme ends behind it.
  moved_on : {size : ℕ} {b : Body} {ts us : Trees} {d p r : ℕ} {xs ys : List Lexeme} → T (moved b) → Reading prefix s b ts d p xs (done us r ys)
      → Ranged size p xs → stop_of p xs ≤ r
  unfolding moved
  moved_on h ended g = absurd h
  moved_on h (gone {q} {ts} {d} {p} {xs} x) g = moved_on (moved_production q p xs (count ts) h) x g
  moved_on h (eaten e x) g = (onward x (ranged_rest g)).0
  moved_on h (leafed x) g = (onward x (ranged_rest g)).0
  moved_on h (closed x) g = moved_on h x g
  moved_on h (subbed {q} {b} {ts} {us} {d} {p} {r} {xs} {ys} x y) g =
      either (moves q) (moved b) h (λ m. omega (arith, moved_on (moved_production q p xs 0 m) x g, (onward y (onward x g).2).0))
      (λ m. omega (arith, moved_on m y (onward x g).2, (onward x g).1))
  moved_on h (deepened {q} {b} {ts} {us} {d} {p} {r} {xs} {ys} x y) g =
      either (moves q) (moved b) h (λ m. omega (arith, moved_on (moved_production q p xs 0 m) x g, (onward y (onward x g).2).0))
      (λ m. omega (arith, moved_on m y (onward x g).2, (onward x g).1))

  -- What is left after a reading is worded if all was.
  left_worded : {b : Body} {ts us : Trees} {d p r : ℕ} {xs ys : List Lexeme} → Reading prefix s b ts d p xs (done us r ys) → Worded xs → Worded ys
  left_worded ended w = w
  left_worded (gone x) w = left_worded x w
  left_worded (eaten e x) w = left_worded x (rest_worded w)
  left_worded (leafed x) w = left_worded x (rest_worded w)
  left_worded (closed x) w = left_worded x w
  left_worded (subbed x y) w = left_worded y (left_worded x w)
  left_worded (deepened x y) w = left_worded y (left_worded x w)

  keeps_chosen : (kind low next : ℕ) (X : List Sort → Type 0) (σs : List Sort) (t : Table) → KeepsAll kind low next X σs t → KeepsAt kind low next X σs (choose s t)
  unfolding choose KeepsAll
  keeps_chosen kind low next X σs (otherwise b) k = k
  keeps_chosen kind low next X σs (row g t b ∣ rows) (k also l) = by t (has s g) k (keeps_chosen kind low next X σs rows l)
    where
      by : (t a : Bool) → (T t → Keeps low next X σs b) → KeepsAt kind low next X σs (choose s rows)
          → KeepsAt kind low next X σs (elim (t && a) [ true ↦ b | false ↦ choose s rows ])
      by true true f g = anywhere kind low next X σs b (f tt)
      by true false f g = g
      by false a f g = g

  keeps_production : {size : ℕ} (q : Phrase) {p : ℕ} {xs : List Lexeme} (n : ℕ) (σs : List Sort) → Ranged size p xs → Worded xs → length σs ≡ n → Before q p σs
      → KeepsAt (kind_of xs) p (stop_of p xs) (AfterFrom (kind_of xs) q) σs (production prefix s q p xs n)
  unfolding production view
  keeps_production q {p} {xs} n σs g w len b =
      keeps_chosen (kind_of xs) p (stop_of p xs) (AfterFrom (kind_of xs) q) σs (rule prefix q (view p xs n))
      (keeps prefix (view p xs n) σs (next_range g) len (next_possible w) (next_possible (rest_worded w)) q b)

  -- After a phrase the place is at least as the checker says.
  after_place : {size : ℕ} (q : Phrase) {us : Trees} {d p r : ℕ} {xs ys : List Lexeme} (low next : ℕ) → low ≤ p → next ≤ stop_of p xs
      → Reading prefix s (production prefix s q p xs 0) trees.none d p xs (done us r ys) → Ranged size p xs → elim (moves q) [ true ↦ next | false ↦ low ] ≤ r
  after_place q {r = r} {xs} low next h k x g = by (moves q) refl
    where
      by : (m : Bool) → moves q ≡ m → elim m [ true ↦ next | false ↦ low ] ≤ r
      by true e = omega (arith, moved_on (moved_production q _ xs 0 (subst T (sym e) tt)) x g)
      by false e = omega (arith, (onward x g).0)

  shaped : {size : ℕ} {b : Body} {ts us : Trees} {d p r : ℕ} {xs ys : List Lexeme} → Reading prefix s b ts d p xs (done us r ys) → Ranged size p xs → Worded xs
      → (low next : ℕ) → low ≤ p → next ≤ stop_of p xs → (X : List Sort → Type 0) (σs : List Sort) → Obeys Spans.forward σs ts → KeepsAt (kind_of xs) low next X σs b
      → (τs : List Sort) × X τs × Obeys Spans.forward τs us
  unfolding Keeps KeepsAt
  shaped ended g w low next h h' X σs o k = (σs, k, o)
  shaped (gone {q} {ts} {d} {p} {xs} x) g w low next h h' X σs o k =
      let y = shaped x g w p (stop_of p xs) (omega arith) (omega arith) (AfterFrom (kind_of xs) q) σs o (keeps_production q (count ts) σs g w (obeys_length o) (k.0 p h)) in
      (y.0, k.1 y.0 (wherever (kind_of xs) q y.0 y.1), y.2)
  shaped (eaten {b = b} {xs = xs} e x) g w low next h h' X σs o k =
      shaped x (ranged_rest g) (rest_worded w) next next h' (omega (arith, next_range (ranged_rest g))) X σs o (anywhere (kind_of (rest xs)) next next X σs b (k e))
  shaped (leafed {b = b} {xs = xs} x) g w low next h h' X σs o k =
      shaped x (ranged_rest g) (rest_worded w) next next h' (omega (arith, next_range (ranged_rest g))) X _
      (obeys_append o (Obeys.node k.1 Fits.none Obeys.none Obeys.none)) (anywhere (kind_of (rest xs)) next next X (σs ++ k.0 ∷ []) b k.2)
  shaped (closed {b = b} {xs = xs} x) g w low next h h' X σs o k =
      shaped x g w low next h h' X _ (Obeys.node k.2 k.3 o Obeys.none) (anywhere (kind_of xs) low next X (k.0 ∷ []) b k.4)
  shaped (subbed {q} {b} {p = p} {xs = xs} {ys} x y) g w low next h h' X σs o k =
      let f = onward x g in
      let z = shaped x g w p (stop_of p xs) (omega arith) (omega arith) (AfterFrom (kind_of xs) q) [] Obeys.none (keeps_production q 0 [] g w refl (k.0 p h)) in
      shaped y f.2 (left_worded x w) _ next (after_place q low next h h' x g) (omega (arith, f.1)) X _ (obeys_append o z.2)
      (anywhere (kind_of ys) (elim (moves q) [ true ↦ next | false ↦ low ]) next X (σs ++ z.0) b (k.1 z.0 z.1))
  shaped (deepened {q} {b} {p = p} {xs = xs} {ys} x y) g w low next h h' X σs o k =
      let f = onward x g in
      let z = shaped x g w p (stop_of p xs) (omega arith) (omega arith) (AfterFrom (kind_of xs) q) [] Obeys.none (keeps_production q 0 [] g w refl (k.0 p h)) in
      shaped y f.2 (left_worded x w) _ next (after_place q low next h h' x g) (omega (arith, f.1)) X _ (obeys_append o z.2)
      (anywhere (kind_of ys) (elim (moves q) [ true ↦ next | false ↦ low ]) next X (σs ++ z.0) b (k.1 z.0 (wherever (kind_of xs) q z.0 z.1)))

  -- EVERY TREE THAT A DERIVATION GIVES OBEYS THE TABLE; it has one root, an expression.
  pub obeys : {size : ℕ} {depth : ℕ} {xs : List Lexeme} {us : Trees} {r : ℕ} {ys : List Lexeme} → Ranged size 0 xs → Worded xs
      → Reads prefix s depth xs (done us r ys)
      → (σ : Sort) × Is σ Sort.expression × Obeys Spans.forward (σ ∷ []) us
  unfolding Keeps KeepsAt Before exit moves
  obeys {xs = xs} g w x =
      let y =
      shaped x g w 0 (stop_of 0 xs) (omega arith) (omega arith) (λ (τs : List Sort). Fits τs (Sort.expression ∷ [])) [] Obeys.none
      ((λ p le. Fits.none), (λ τs y. y)) in
      lone y.1 y.2
    where
      lone : {us : Trees} {τs : List Sort} → Fits τs (Sort.expression ∷ []) → Obeys Spans.forward τs us
          → (σ : Sort) × Is σ Sort.expression × Obeys Spans.forward (σ ∷ []) us
      lone (Fits.more i Fits.none) o = (_, i, o)

  pub one_root : {size : ℕ} {depth : ℕ} {xs : List Lexeme} {us : Trees} {r : ℕ} {ys : List Lexeme} → Ranged size 0 xs → Worded xs
      → Reads prefix s depth xs (done us r ys) → count us ≡ 1
  one_root g w x = sym (obeys_length (obeys g w x).2)

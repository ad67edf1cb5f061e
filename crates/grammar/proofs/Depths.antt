-- One phrase read at two depths: where both readings are done they are the same, and where one is done the other is broken by its depth only.
-- Assumes nothing.
use mathlib.Core.Path.{◌≡◌, refl}
use mathlib.Core.List.{List}
use Prim.Native.Nat.{ℕ}
use Rattle.grammar.specs.Trees.{Trees, ◌⊕◌}
use Rattle.grammar.specs.Lexemes.{Lexeme}
use Rattle.grammar.specs.Productions.{Body}
use Rattle.grammar.specs.Reading.{Outcome, done, broken, Reading, ended, gone, eaten, uneaten, leafed, closed, subbed, unsubbed, deepened}
use Rattle.grammar.specs.Reading.{undeepened, too_deep}

-- The same outcome, as what is known of one.
pub data Same (us : Trees) (r : ℕ) (ys : List Lexeme) : Trees → ℕ → List Lexeme → Type 0 where
  same_as : Same us r ys us r ys

module _ {prefix s : ℕ} where
  -- What comes after a phrase, moved to that phrase's other outcome.
  moved : {b : Body} (ts : Trees) {vs vs' : Trees} {d j j' : ℕ} {zs zs' : List Lexeme} {o : Outcome} → Same vs j zs vs' j' zs'
      → Reading prefix s b (ts ⊕ vs') d j' zs' o → Reading prefix s b (ts ⊕ vs) d j zs o
  moved ts same_as x = x

  -- TWO READINGS THAT ARE DONE, whatever their depths, are one.
  pub done_once : {b : Body} {ts us vs : Trees} {d e p r j : ℕ} {xs ys zs : List Lexeme}
      → Reading prefix s b ts d p xs (done us r ys) → Reading prefix s b ts e p xs (done vs j zs) → Same us r ys vs j zs
  done_once ended ended = same_as
  done_once (gone x) (gone y) = done_once x y
  done_once (eaten q x) (eaten q' y) = done_once x y
  done_once (leafed x) (leafed y) = done_once x y
  done_once (closed x) (closed y) = done_once x y
  done_once (subbed {ts = ts} x x') (subbed y y') = done_once x' (moved ts (done_once x y) y')
  done_once (deepened {ts = ts} x x') (deepened y y') = done_once x' (moved ts (done_once x y) y')

  -- WHERE ONE IS DONE THE OTHER IS BROKEN BY ITS DEPTH ONLY: number 11.
  pub broken_by_depth : {b : Body} {ts us : Trees} {d e p r n q x : ℕ} {xs ys zs : List Lexeme}
      → Reading prefix s b ts d p xs (done us r ys) → Reading prefix s b ts e p xs (broken n q zs x) → n ≡ 11
  broken_by_depth {e = e} {n = n} {q = q} {zs = zs} (ended {ts = ts} {d = d} {p = p} {xs = xs}) x19 = elim x19 [ ]
  broken_by_depth (gone x) (gone y) = broken_by_depth x y
  broken_by_depth (eaten q x) (eaten q' y) = broken_by_depth x y
  broken_by_depth (eaten q x) (uneaten n) = absurd (n q)
  broken_by_depth (leafed x) (leafed y) = broken_by_depth x y
  broken_by_depth (closed x) (closed y) = broken_by_depth x y
  broken_by_depth (subbed x x') (unsubbed y) = broken_by_depth x y
  broken_by_depth (subbed {ts = ts} x x') (subbed y y') = broken_by_depth x' (moved ts (done_once x y) y')
  broken_by_depth (deepened x x') (undeepened y) = broken_by_depth x y
  broken_by_depth (deepened {ts = ts} x x') (deepened y y') = broken_by_depth x' (moved ts (done_once x y) y')
  broken_by_depth (deepened x x') too_deep = refl

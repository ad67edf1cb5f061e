-- Laws of what is counted: whatever adds a tree takes a byte, and lists that tell how many trees they add.
-- Assumes nothing.
use Rattle.std.specs.Prelude.{Ok, Err}
use mathlib.Core.Path.{◌≡◌, refl, ap, subst⁻¹}
use mathlib.Core.List.{List}
use Prim.Native.Nat.{ℕ, ◌+◌, ◌*◌, ◌≤◌, ◌<◌}
use native.Mathlib.Omega.{arith}
use lib.ListN.{length}
use Rattle.grammar.specs.Trees.{Trees, none, node, count as size}
use Rattle.grammar.specs.Image.{image}
use Rattle.grammar.specs.Productions.{Phrase, Step, Body, end, goto, ◌▸◌}
use Rattle.grammar.proofs.ImageLaws.{image-length}
use Rattle.leaves.specs.Meets.{State, state, Seg, Breaks, Takes, Counted, Counts, Argues, Answer, reached}
use Rattle.leaves.proofs.Steps
use Rattle.leaves.specs.declared.Cursor.{Cursor}
use Rattle.leaves.specs.declared.Refusal.{Refusal}
use Rattle.leaves.specs.declared.Done.{Done}

-- ── What adds a tree and owes nothing takes a byte: the tree's image is paid for ──────────────────

imaged : (ts : Trees) → size ts ≤ length (image ts)
unfolding size
imaged none = omega arith
imaged (node tag fields children ts) = omega (arith, image-length tag fields children ts, imaged ts)

grows : {g : ℕ} {s : List ℕ} {d : ℕ} {b b₁ : Body} {k w w₁ : ℕ} {c c₁ : Cursor} {o o₁ : List ℕ} → 0 < k → Seg g s d (state b 0 c w o) 0 0 (state b₁ k c₁ w₁ o₁) → c.at < c₁.at
unfolding size image
grows h p = omega (arith, imaged (p.trees none), p.counted none refl, ap length (p.imaged none), p.wrote, p.credit)

pub step_grows : {g : ℕ} {s : List ℕ} {st : Step} {d w : ℕ} {c : Cursor} {o o₁ : List ℕ} {a : Answer} {x : Done} → Takes g s st 1 0 d c w o a o₁ → a ≡ Ok x → c.at < x.0.at
step_grows {g} {s} {st} {d} {w} {c = c} {o = o} m e = grows (omega arith) (Steps.took {b = end} m e (Steps.at g s d (st ▸ end) 0 c w o))

pub argument_grows : {g : ℕ} {s : List ℕ} {d m k w : ℕ} {c : Cursor} {o o₁ : List ℕ} {a : Answer} {x : Done} → Argues g s d m k c w o a o₁ → a ≡ Ok x → c.at < x.0.at
argument_grows h q = grows (omega arith) (Steps.led (h.argues 0 0 0) q)

-- ── Lists that tell how many trees they add ───────────────────────────────────────────────────────

module _ {g : ℕ} {s : List ℕ} {d : ℕ} {q : Phrase} {c : Cursor} {w e v : ℕ} {o : List ℕ} where
  pub counts_on : {c₁ : Cursor} {w₁ k u : ℕ} {o₁ : List ℕ} → v ≤ 32 * e + u → c.at + k ≤ c₁.at → Seg g s d (state (goto q) 0 c w o) e v (state end k c₁ w₁ o₁)
      → Counts g s q u d c w o (reached c₁ w₁ k) o₁
  unfolding Counted
  counts_on h i p = record { counts = (Steps.as_sub (Steps.owes h p), i) }

  pub passed_counting : {mid : State} {a : Answer} {u : ℕ} {o₁ : List ℕ} → ((r : Refusal) × (a ≡ Err r) × Breaks g s d mid r) → Seg g s d (state (goto q) 0 c w o) e v mid
      → Counts g s q u d c w o a o₁
  unfolding Counted
  passed_counting {u = u} {o₁ = o₁} x p =
      record { counts = subst⁻¹ (λ (z : Answer). Counted g s q u d c w o z o₁) x.1 (Steps.as_sub (Steps.broke (Steps.breaks_on x.2 p) refl)) }

-- What the phrases that a keyword begins, and parameters, go on as.
-- Assumes nothing.
use Rattle.std.specs.Prelude.{Err}
use mathlib.Core.Path.{◌≡◌, refl, ap, subst⁻¹}
use mathlib.Core.List.{List, [], ◌∷◌}
use Prim.Native.Nat.{ℕ, zero, suc, ◌+◌, ◌-◌, ◌<◌}
use native.Mathlib.Omega.{arith}
use lib.Dec.{lit<}
use borrow.Author.Tests.{ne_eqb}
use Rattle.grammar.specs.Trees.{byte, number, span}
use Rattle.grammar.specs.Lexemes.{Lexeme, Said}
use Rattle.grammar.specs.Productions.{Body, end, goto, fail, ◌▸◌, eat, sub, close, rule, expression}
use Rattle.grammar.specs.Productions.{basic, params, else_part, function_body, assertion, condition, asserted, pattern, param, param_default, array_comp, array_comp_end, clauses, comprehension, comprehension_end}
use Rattle.grammar.specs.Reading.{has, choose}
use Rattle.leaves.specs.Lexing.{Stands, Imports, normal, string, binary}
use Rattle.leaves.specs.Meets.{state, Leads, Counts, Answer}
use Rattle.leaves.proofs.Steps
use Rattle.leaves.proofs.LexemeLaws.{sight}
use Rattle.leaves.proofs.LeafRules.{is}
use Rattle.leaves.specs.declared.Cursor.{Cursor}
use Rattle.leaves.specs.declared.Refusal.{Refusal}

pub import_some : {k b : ℕ} → Imports k b → 1 < k
import_some normal = lit< tt
import_some string = lit< tt
import_some binary = lit< tt

pub none_before : (n : ℕ) → 0 + n ≡ n
none_before n = omega arith

module _ (g : ℕ) (c : Cursor) (xs : List Lexeme) (n : ℕ) where
  -- ── Imports, `assert`, `if`, `function` ─────────────────────────────────────────────────────────

  pub imports_on : {k b : ℕ} (t : Said) → Imports k b → is g c xs n basic k t ≡ eat k ▸ expression ▸ close 16 (byte b ∷ span c.start c.end ∷ []) ▸ end
  unfolding choose rule sight has
  imports_on t normal = refl
  imports_on t string = refl
  imports_on t binary = refl

  pub claims_on : (t : Said) → is g c xs n basic 84 t ≡ sub assertion ▸ eat 30 ▸ expression ▸ close 14 [] ▸ end
  unfolding choose rule sight has
  claims_on t = refl

  pub ifs_on : (t : Said) → is g c xs n basic 71 t ≡ eat 71 ▸ expression ▸ eat 72 ▸ expression ▸ goto (else_part c.start c.end)
  unfolding choose rule sight has
  ifs_on t = refl

  pub functions_on : (t : Said) → is g c xs n basic 74 t ≡ eat 74 ▸ eat 25 ▸ sub params ▸ eat 26 ▸ goto (function_body c.start c.end)
  unfolding choose rule sight has
  functions_on t = refl

  pub else_on : (a e : ℕ) (t : Said) → is g c xs n (else_part a e) 73 t ≡ eat 73 ▸ expression ▸ close 22 (span a e ∷ byte 1 ∷ []) ▸ end
  unfolding choose rule sight has
  else_on a e t = refl

  pub no_else : (a e k : ℕ) (t : Said) → ¬ (k ≡ 73) → is g c xs n (else_part a e) k t ≡ close 22 (span a e ∷ byte 0 ∷ []) ▸ end
  unfolding choose rule sight
  no_else a e k t h = simp (ne_eqb k 73 h)

  pub function_bodies : (a e k : ℕ) (t : Said) → is g c xs n (function_body a e) k t ≡ expression ▸ close 21 (span a e ∷ number n ∷ []) ▸ end
  unfolding choose rule sight
  function_bodies a e k t = refl

  -- ── Assertions ──────────────────────────────────────────────────────────────────────────────────

  pub asserts_on : (k : ℕ) (t : Said) → is g c xs n assertion k t ≡ eat 84 ▸ goto condition
  unfolding choose rule sight
  asserts_on k t = refl

  pub conditions : (k : ℕ) (t : Said) → is g c xs n condition k t ≡ expression ▸ goto (asserted c.start)
  unfolding choose rule sight
  conditions k t = refl

  pub with_message : (a : ℕ) (t : Said) → is g c xs n (asserted a) 29 t ≡ eat 29 ▸ expression ▸ close 32 (span a c.at ∷ byte 1 ∷ []) ▸ end
  unfolding choose rule sight has
  with_message a t = refl

  pub no_message : (a k : ℕ) (t : Said) → ¬ (k ≡ 29) → is g c xs n (asserted a) k t ≡ close 32 (span a c.at ∷ byte 0 ∷ []) ▸ end
  unfolding choose rule sight
  no_message a k t h = simp (ne_eqb k 29 h)

  -- ── Parameters ──────────────────────────────────────────────────────────────────────────────────

  pub parameters : (k : ℕ) (t : Said) → is g c xs n param k t ≡ sub pattern ▸ goto param_default
  unfolding choose rule sight
  parameters k t = refl

  pub with_default : (t : Said) → is g c xs n param_default 35 t ≡ eat 35 ▸ expression ▸ close 30 (byte 1 ∷ []) ▸ end
  unfolding choose rule sight has
  with_default t = refl

  pub no_default : (k : ℕ) (t : Said) → ¬ (k ≡ 35) → is g c xs n param_default k t ≡ close 30 (byte 0 ∷ []) ▸ end
  unfolding choose rule sight
  no_default k t h = simp (ne_eqb k 35 h)

  -- ── Comprehensions ──────────────────────────────────────────────────────────────────────────────

  pub array_clauses : (k : ℕ) (t : Said) → is g c xs n array_comp k t ≡ sub clauses ▸ goto array_comp_end
  unfolding choose rule sight
  array_clauses k t = refl

  pub good_clauses : (f k : ℕ) (t : Said) → f ≡ 0 → is g c xs n (comprehension f) k t ≡ sub clauses ▸ goto (comprehension_end n)
  unfolding choose rule sight has
  good_clauses f k t h = subst⁻¹ (λ (m : ℕ). is g c xs n (comprehension m) k t ≡ sub clauses ▸ goto (comprehension_end n)) h refl

  pub bad_clauses : (f k : ℕ) (t : Said) → ¬ (f ≡ 0) → is g c xs n (comprehension f) k t ≡ sub clauses ▸ fail 8 f
  unfolding choose rule sight
  bad_clauses f k t h = simp (ne_eqb f 0 h)

module _ (g : ℕ) (c : Cursor) (xs : List Lexeme) where
  pub array_clauses_end : (m k : ℕ) (t : Said) → is g c xs (1 + m) array_comp_end k t ≡ eat 24 ▸ close 8 (number m ∷ []) ▸ end
  unfolding choose rule sight
  array_clauses_end m k t = let e : 1 + m - 1 ≡ m = omega arith in ap (λ (j : ℕ). eat 24 ▸ close 8 (number j ∷ []) ▸ end) e

  pub clauses_end : (n m k : ℕ) (t : Said) → is g c xs (n + m) (comprehension_end n) k t ≡ close 10 (number n ∷ number m ∷ []) ▸ end
  unfolding choose rule sight
  clauses_end n m k t = let e : n + m - n ≡ m = omega arith in ap (λ (j : ℕ). close 10 (number n ∷ number j ∷ []) ▸ end) e

-- a comprehension whose clauses are refused, whatever its members
pub clauses_break : {g : ℕ} {s : List ℕ} {d n w u m : ℕ} {b : Body} {c : Cursor} {o o₁ : List ℕ} {a a′ : Answer} {r : Refusal} (f : ℕ) → Stands s c → Counts g s clauses 0 d c w o a o₁ → a ≡ Err r
    → a′ ≡ Err r → Leads g s d (state (goto (comprehension f)) n c w o) u b m a′ o₁
clauses_break {g} {s} {d} {n} {w} {c = c} {o} zero st h q t =
    Steps.passed (Steps.counts_broken h q t) (Steps.known (sub clauses ▸ goto (comprehension_end n)) st refl (λ xs t. good_clauses g c xs n 0 c.kind t refl) (Steps.at g s d (goto (comprehension 0)) n c w o))
clauses_break {g} {s} {d} {n} {w} {c = c} {o} (suc f) st h q t =
    Steps.passed (Steps.counts_broken h q t)
    (Steps.known (sub clauses ▸ fail 8 (suc f)) st refl (λ xs t. bad_clauses g c xs n (suc f) c.kind t (λ z. omega (arith, z))) (Steps.at g s d (goto (comprehension (suc f))) n c w o))

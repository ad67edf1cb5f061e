-- `parser::header_at` meets its contract.
-- Assumes nothing.
use mathlib.Core.Path.{◌≡◌, refl, sym, ◌∙◌}
use mathlib.Core.Bool.{Bool, true, false}
use Prim.Native.Nat.{ℕ}
use mathlib.Core.List.{List}
use lib.Dec.{eqb}
use borrow.Author.Tests.{eqb-true, eqb-false}
use Rattle.grammar.specs.Productions.{exp_object_iteration}
use Rattle.grammar.specs.Reading.{has}
use Rattle.leaves.specs.Lexing.{Moved, Header, header, off, no_bracket, no_key, not_closed, no_colon}
use Rattle.leaves.specs.declared.Cursor.{Cursor}
use Rattle.leaves.proofs.parser.header_at.Goals as goal

-- past `]` a colon decides
at_colon : {g : ℕ} {s : List ℕ} {c c₁ c₂ c₃ : Cursor} → has g exp_object_iteration ≡ true → c.kind ≡ 23 → Moved s c c₁ → c₁.kind ≡ 55 → Moved s c₁ c₂ → c₂.kind ≡ 24
    → Moved s c₂ c₃ → (t : Bool) → eqb c₃.kind 29 ≡ t → Header g s c t
at_colon {c₃ = c₃} h k m k₁ m₁ k₂ m₂ true e = header h k m k₁ m₁ k₂ m₂ (eqb-true c₃.kind 29 e)
at_colon {c₃ = c₃} h k m k₁ m₁ k₂ m₂ false e = no_colon m m₁ m₂ (eqb-false c₃.kind 29 e)

pub returns-then-not-has_object_iteration : goal.returns-then-not-has_object_iteration
returns-then-not-has_object_iteration c = off (sym c.has_object_iteration.ensures ∙ c.if-not-has_object_iteration.true)

pub returns-then-c-ne-L_BRACK : goal.returns-then-c-ne-L_BRACK
returns-then-c-ne-L_BRACK c = no_bracket c.if-c-ne-L_BRACK.true

pub returns-then-c1-ne-IDENT : goal.returns-then-c1-ne-IDENT
returns-then-c1-ne-IDENT c = no_key c.eat_any-c1.ensures c.if-c1-ne-IDENT.true

pub returns-then-c2-ne-R_BRACK : goal.returns-then-c2-ne-R_BRACK
returns-then-c2-ne-R_BRACK c = not_closed c.eat_any-c1.ensures c.eat_any-c2.ensures c.if-c2-ne-R_BRACK.true

pub returns : goal.returns
returns c =
    at_colon (sym c.has_object_iteration.ensures ∙ c.if-not-has_object_iteration.false) c.if-c-ne-L_BRACK.false c.eat_any-c1.ensures c.if-c1-ne-IDENT.false c.eat_any-c2.ensures
    c.if-c2-ne-R_BRACK.false c.eat_any-c3.ensures _ refl

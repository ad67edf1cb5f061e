-- WHICH TREES ARE DERIVED AT ALL, from whatever worded lexemes, at whatever depth, whatever their spans: exactly those that obey the table of
-- records but for spans. With spans forward and absent ones 0: exactly those that obey the whole table.
-- Assumes nothing.
use mathlib.Core.List.{List, [], ◌∷◌}
use Prim.Native.Nat.{ℕ}
use Rattle.grammar.specs.Trees.{Trees, ◌⊕◌}
use Rattle.grammar.specs.Lexemes.{Lexeme}
use Rattle.grammar.specs.Reading.{done, ended, eaten, deepened, Reads}
use Rattle.grammar.specs.Words.{Worded}
use Rattle.grammar.specs.Spells.{anywhere}
use Rattle.grammar.specs.Records.{Sort, Is, Spans, Obeys}
use Rattle.grammar.specs.Derived.{Spanned, Derived}
use Rattle.grammar.proofs.Alike.{alike_sym}
use Rattle.grammar.proofs.ButForSpans.{loose, obeys_alike}
use Rattle.grammar.proofs.Spanned.{spanned_obeys, obeys_spanned}
use Rattle.grammar.proofs.SpelledReadings.{expr_spells}
use Rattle.grammar.proofs.SpelledSources.{spelled_is_read}
use Rattle.grammar.proofs.SpelledObeys.{Expression, spelled_obeys}
use Rattle.grammar.proofs.Exactly.{exactly}

-- WHAT IS DERIVED OBEYS THE TABLE BUT FOR SPANS, under every setting.
pub derived_obeys : {prefix s : ℕ} {t : Trees} → Derived prefix s t → Expression t
unfolding ◌⊕◌
derived_obeys {prefix} {s} x = let e = by x.worded x.reads in (e.0, e.1, obeys_alike (alike_sym x.alike) e.2)
  where
    by : {d r : ℕ} {xs ys : List Lexeme} {us : Trees} → Worded xs → Reads prefix s d xs (done us r ys) → Expression us
    by w (deepened y (eaten e ended)) = spelled_obeys w (expr_spells prefix s anywhere (λ q k g. tt) y)

-- WHAT OBEYS THE TABLE BUT FOR SPANS IS DERIVED, under setting 7.
pub obeys_derived : {prefix : ℕ} {t : Trees} → Expression t → Derived prefix 7 t
obeys_derived {prefix} {t} e =
    let x = (exactly prefix t).1 e in
    let r = spelled_is_read x.spells in
    record { lexemes = x.lexemes; worded = x.worded; depth = x.levels; given = r.0; at = r.1; left = []; reads = r.2; alike = r.3 }

-- AN IMAGE'S TREE OBEYS THE WHOLE TABLE EXACTLY WHEN SOME DERIVATION UNDER SETTING 7 GIVES IT BUT FOR SPANS, and its own spans are forward and,
-- where something is absent, 0.
abbrev pub Whole : Trees → Type 0
Whole t = (σ : Sort) × Is σ Sort.expression × Obeys Spans.forward (σ ∷ []) t

pub whole_exactly : (prefix : ℕ) (t : Trees) → (Whole t → Derived prefix 7 t × Spanned t) × (Derived prefix 7 t × Spanned t → Whole t)
whole_exactly prefix t = (
  (λ x. (obeys_derived (x.0, x.1, loose x.2), obeys_spanned x.2)),
  (λ y. let e = derived_obeys y.0 in (e.0, e.1, spanned_obeys e.2 y.1)),
)

-- A lexeme of a source says one thing only.
-- Assumes nothing.
use mathlib.Core.Path.{◌≡◌, refl, ap, ap₂}
use mathlib.Core.List.{List, ◌∷◌}
use Prim.Native.Nat.{ℕ}
use Rattle.strings.proofs.LiteralLaws.{quoted_once, verbatim_once, bad_escape_once, bad_escape_no_text}
use Rattle.blocks.proofs.Laws.{text_once}
use Rattle.lexemes.specs.declared.Lexeme.{Lexeme as Range}
use Rattle.lexemes.specs.Kinds.{STRING_DOUBLE, STRING_SINGLE}
use Rattle.grammar.specs.Lexemes.{Said, Lexeme}
use Rattle.grammar.specs.Says.{Means, Spoils, in_double, in_single, Says, its_text, its_escape, no_text, Told}

pub means_once : {s : List ℕ} {k a e : ℕ} {w w' : List ℕ} → Means s k a e w → Means s k a e w' → w ≡ w'
means_once Means.name Means.name = refl
means_once (Means.number n) (Means.number m) = refl
means_once (Means.double x) (Means.double y) = quoted_once x y
means_once (Means.single x) (Means.single y) = quoted_once x y
means_once (Means.double_verbatim x) (Means.double_verbatim y) = verbatim_once x y
means_once (Means.single_verbatim x) (Means.single_verbatim y) = verbatim_once x y
means_once (Means.block x) (Means.block y) = text_once x y

pub spoils_once : {s : List ℕ} {k a e n n' : ℕ} → Spoils s k a e n → Spoils s k a e n' → n ≡ n'
spoils_once (in_double x) (in_double y) = bad_escape_once x y
spoils_once (in_single x) (in_single y) = bad_escape_once x y

pub spoils_no_text : {s : List ℕ} {k a e n : ℕ} {w : List ℕ} → Means s k a e w → Spoils s k a e n → ⊥
spoils_no_text {s = s} {a = a} {e = e} {n = n} Means.name x6 = elim x6 [ ]
spoils_no_text {s = s} {a = a} {e = e} {n = n} (Means.number _) x12 = elim x12 [ ]
spoils_no_text {s = s} {a = a} {e = e} {n = n} {w = w} (Means.double_verbatim _) x13 = elim x13 [ ]
spoils_no_text {s = s} {a = a} {e = e} {n = n} {w = w} (Means.single_verbatim _) x14 = elim x14 [ ]
spoils_no_text {s = s} {a = a} {e = e} {n = n} {w = w} (Means.block _) x15 = elim x15 [ ]
spoils_no_text (Means.double x) (in_double y) = bad_escape_no_text x y
spoils_no_text (Means.single x) (in_single y) = bad_escape_no_text x y

-- A bad escape is a quoted string's only.
pub no_spoils : {s : List ℕ} {k a e : ℕ} → (k ≡ STRING_DOUBLE → ⊥) → (k ≡ STRING_SINGLE → ⊥) → (n : ℕ) → Spoils s k a e n → ⊥
no_spoils f g n (in_double x) = f refl
no_spoils f g n (in_single x) = g refl

pub says_once : {s : List ℕ} {k a e : ℕ} {w w' : Said} → Says s k a e w → Says s k a e w' → w ≡ w'
says_once (its_text x) (its_text y) = ap Said.says (means_once x y)
says_once (its_text x) (its_escape y) = absurd (spoils_no_text x y)
says_once (its_text {w = w} x) (no_text h g) = absurd (h w x)
says_once (its_escape x) (its_text y) = absurd (spoils_no_text y x)
says_once (its_escape x) (its_escape y) = ap Said.spoiled (spoils_once x y)
says_once (its_escape {n = n} x) (no_text h g) = absurd (g n x)
says_once (no_text h g) (its_text {w = w} x) = absurd (h w x)
says_once (no_text h g) (its_escape {n = n} x) = absurd (g n x)
says_once (no_text h g) (no_text h' g') = refl

pub told_once : {s : List ℕ} {xs : List Range} {ys zs : List Lexeme} → Told s xs ys → Told s xs zs → ys ≡ zs
told_once Told.none Told.none = refl
told_once (Told.more {k = k} {a = a} {e = e} x t) (Told.more y u) =
    ap₂ (λ (w : Said) (r : List Lexeme). record { kind = k; start = a; stop = e; word = w } ∷ r) (says_once x y) (told_once t u)

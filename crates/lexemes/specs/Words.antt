-- The keywords as the code has them, and what it says of a word. No public contract cites these.
-- Assumes nothing.
use Rattle.std.specs.Prelude.{◌≡◌, List, [], ◌∷◌, ◌⊎◌, ℕ, zero, suc, ◌+◌, ◌-◌, ◌*◌, ◌<◌, get_or, take, drop}
use Rattle.lexemes.specs.Letters.{ascii}
use Rattle.lexemes.specs.Kinds.{IDENT, TAILSTRICT_KW, LOCAL_KW, IMPORTSTR_KW, IMPORTBIN_KW, IMPORT_KW, IF_KW, THEN_KW, ELSE_KW, FUNCTION_KW, ERROR_KW, IN_KW, NULL_KW, TRUE_KW, FALSE_KW, SELF_KW, SUPER_KW, FOR_KW, ASSERT_KW}

-- The keywords, one after the other; where each starts; its kind.
unfoldable pub word_bytes : List ℕ
word_bytes = ascii "tailstrictlocalimportstrimportbinimportifthenelsefunctionerrorinnulltruefalseselfsuperforassert"

unfoldable pub word_from : List ℕ
word_from = 0 ∷ 10 ∷ 15 ∷ 24 ∷ 33 ∷ 39 ∷ 41 ∷ 45 ∷ 49 ∷ 57 ∷ 62 ∷ 64 ∷ 68 ∷ 72 ∷ 77 ∷ 81 ∷ 86 ∷ 89 ∷ 95 ∷ []

unfoldable pub word_kind : List ℕ
word_kind =
    TAILSTRICT_KW ∷ LOCAL_KW ∷ IMPORTSTR_KW ∷ IMPORTBIN_KW ∷ IMPORT_KW ∷ IF_KW ∷ THEN_KW ∷ ELSE_KW ∷ FUNCTION_KW ∷
    ERROR_KW ∷ IN_KW ∷ NULL_KW ∷ TRUE_KW ∷ FALSE_KW ∷ SELF_KW ∷ SUPER_KW ∷ FOR_KW ∷ ASSERT_KW ∷ []

-- The text of the keyword w.
unfoldable pub word_text : ℕ → List ℕ
word_text w = take (get_or word_from (w + 1) 0 - get_or word_from w 0) (drop (get_or word_from w 0) word_bytes)

-- The bytes from i to j are those of the text.
unfoldable pub Spells : List ℕ → List ℕ → ℕ → ℕ → Type 0
Spells s [] i j = i ≡ j
Spells s (b ∷ bs) i j = (get_or s i 0 ≡ b) × Spells s bs (i + 1) j

-- The n bytes from i on make the number r, the first one lowest.
unfoldable pub Makes : List ℕ → ℕ → ℕ → ℕ → Type 0
Makes s i zero r = r ≡ 0
Makes s i (suc n) r = (q : ℕ) × (get_or s i 0 < 256) × Makes s (i + 1) n q × (r ≡ get_or s i 0 + 256 * q)

-- k is the kind of the keyword from i to j, or IDENT where there is none.
abbrev pub KeywordAt : List ℕ → ℕ → ℕ → ℕ → Type 0
KeywordAt s i j k =
    ((w : ℕ) × (w < 18) × (k ≡ get_or word_kind w 0) × Spells s (word_text w) i j)
    ⊎ ((k ≡ IDENT) × ((w : ℕ) → w < 18 → Spells s (word_text w) i j → ⊥))

-- What lexemes say: every text is UTF-8, by its kind it is a name or a numeral, and the lexemes of a UTF-8 source say only what is possible.
-- Assumes nothing.
use mathlib.Core.Path.{◌≡◌, refl, sym, ap, subst, ◌∙◌}
use mathlib.Core.Bool.{Bool, true, false, not, ◌&&◌, ◌||◌}
use mathlib.Core.List.{List, [], ◌∷◌, ◌++◌, append-nil}
use Prim.Native.Nat.{ℕ, zero, suc, ◌+◌, ◌-◌, ◌≤◌, ◌<◌}
use native.Mathlib.Omega.{arith}
use lib.Dec.{T, T_not, eqb, eqb→eq, eqb_refl, leb, leb→le, ltb}
use lib.ListN.{length, take, drop}
use lib.Seq.{slice}
use Rattle.strings.specs.Utf8.{Utf8, Character}
use Rattle.strings.specs.Literals.{Quoted, Verbatim}
use Rattle.lexemes.specs.declared.Lexeme.{Lexeme as Range}
use Rattle.lexemes.specs.Kinds.{EOF, FLOAT, IDENT}
use Rattle.lexemes.specs.Lexeme.{LexemeAt}
use Rattle.lexemes.specs.Texts.{part, All, Identifier, Whole, digits, Fraction, point, Exponent, unsigned, signed, Numeral, numeral, plain}
use Rattle.lexemes.specs.Kept as lexemes
use Rattle.lexemes.proofs.KeptLaws.{Rest, kept_step}
use Rattle.lexemes.proofs.TextLaws.{ident_is_identifier, float_is_numeral, double_decodes_utf8, single_decodes_utf8, double_verbatim_decodes_utf8}
use Rattle.lexemes.proofs.TextLaws.{single_verbatim_decodes_utf8, block_decodes_utf8}
use Rattle.grammar.specs.Lexemes.{Said, says, nothing, good, said, Lexeme, rest, kind_of, word_of}
use Rattle.grammar.specs.Says.{Means, name, number, double, single, double_verbatim, single_verbatim, block, in_double, in_single, Says, its_text, its_escape, no_text, Told}
use Rattle.grammar.specs.Source.{Kept, kept}
use Rattle.grammar.specs.Spells as spells
use Rattle.grammar.specs.Words.{NameText, NumberText, Possible, Worded}
use Rattle.grammar.proofs.Chosen.{and_left, and_right}

-- ── Names and numerals are UTF-8 ──────────────────────────────────────────────────────────────────

-- A class of letters by its ranges; where these are of ASCII, so is the letter.
infix 90 ◌to◌
data Between : Type 0 where
  ◌to◌ : ℕ → ℕ → Between

abbrev within : List Between → ℕ → Bool
within [] b = false
within (lo to hi ∷ rs) b = (leb lo b && leb b hi) || within rs b

abbrev low : List Between → Bool
low [] = true
low (lo to hi ∷ rs) = leb hi 127 && low rs

ascii : (rs : List Between) → T (low rs) → (b : ℕ) → T (within rs b) → b ≤ 127
ascii [] l b t = absurd t
ascii (lo to hi ∷ rs) l b t =
    by (leb lo b) (leb b hi) (within rs b) t (leb→le b hi) (leb→le hi 127 (and_left (leb hi 127) (low rs) l)) (ascii rs (and_right (leb hi 127) (low rs) l) b)
  where
    by : (x y z : Bool) → T ((x && y) || z) → (T y → b ≤ hi) → hi ≤ 127 → (T z → b ≤ 127) → b ≤ 127
    by true true z t f h g = let k = f tt in omega arith
    by true false z t f h g = g t
    by false y z t f h g = g t

one_byte : {b : ℕ} {w : List ℕ} → b ≤ 127 → Utf8 w → Utf8 (b ∷ w)
one_byte {b} h u = Utf8.more (Character.row_00_7F {a = b} (omega arith, h)) u

all_bytes : (f : ℕ → Bool) → ((b : ℕ) → T (f b) → b ≤ 127) → (w u : List ℕ) → All f w → Utf8 u → Utf8 (w ++ u)
all_bytes f h [] u a v = v
all_bytes f h (b ∷ w) u a v = one_byte (h b a.0) (all_bytes f h w u a.1 v)

abbrev letters : List Between
letters = 95 to 95 ∷ 97 to 122 ∷ 65 to 90 ∷ []

abbrev letters_digits : List Between
letters_digits = 95 to 95 ∷ 97 to 122 ∷ 65 to 90 ∷ 48 to 57 ∷ []

abbrev digit : List Between
digit = 48 to 57 ∷ []

append_none : (w : List ℕ) → Utf8 (w ++ []) → Utf8 w
append_none w u = subst Utf8 (append-nil w) u

identifier_utf8 : (w : List ℕ) → Identifier w → Utf8 w
identifier_utf8 [] h = absurd h
identifier_utf8 (b ∷ bs) h =
    one_byte (ascii letters tt b (and_right (ltb b 130) (within letters b) h.0))
    (append_none bs (all_bytes (λ c. ltb c 130 && within letters_digits c)
    (λ c t. ascii letters_digits tt c (and_right (ltb c 130) (within letters_digits c) t)) bs [] h.1 Utf8.none))

all_digits : (w u : List ℕ) → All (within digit) w → Utf8 u → Utf8 (w ++ u)
all_digits w u a v = all_bytes (within digit) (λ c t. ascii digit tt c t) w u a v

whole-utf8 : {w : List ℕ} (u : List ℕ) → Whole w → Utf8 u → Utf8 (w ++ u)
whole-utf8 u Whole.zero v = one_byte (omega arith) v
whole-utf8 u (digits {b} {bs} t a) v = one_byte (ascii (49 to 57 ∷ []) tt b t) (all_digits bs u a v)

fraction-utf8 : {w : List ℕ} (u : List ℕ) → Fraction w → Utf8 u → Utf8 (w ++ u)
fraction-utf8 u Fraction.none v = v
fraction-utf8 u (point {b} {bs} t a) v = one_byte (omega arith) (one_byte (ascii digit tt b t) (all_digits bs u a v))

exponent-utf8 : {w : List ℕ} → Exponent w → Utf8 w
exponent-utf8 Exponent.none = Utf8.none
exponent-utf8 (unsigned {e} {b} {bs} x t a) =
    one_byte (ascii (101 to 101 ∷ 69 to 69 ∷ []) tt e x) (one_byte (ascii digit tt b t) (append_none bs (all_digits bs [] a Utf8.none)))
exponent-utf8 (signed {e} {s} {b} {bs} x y t a) =
    one_byte (ascii (101 to 101 ∷ 69 to 69 ∷ []) tt e x) (one_byte (ascii (43 to 43 ∷ 45 to 45 ∷ []) tt s y)
    (one_byte (ascii digit tt b t) (append_none bs (all_digits bs [] a Utf8.none))))

pub name_utf8 : {w : List ℕ} → NameText w → Utf8 w
name_utf8 {w} h = identifier_utf8 w h.identifier

numeral_utf8 : {w : List ℕ} → Numeral w → Utf8 w
numeral_utf8 (numeral {w} {f} {e} x y z) = whole-utf8 (f ++ e) x (fraction-utf8 e y (exponent-utf8 z))

-- ── What a kind may say ───────────────────────────────────────────────────────────────────────────

pub is_kind : {k j : ℕ} → k ≡ j → T (eqb k j)
is_kind {k} e = subst (λ (i : ℕ). T (eqb k i)) e (eqb_refl k)

-- Kinds that may say nothing: all but names.
abbrev pub wordless : ℕ → Bool
wordless k = not (eqb k IDENT)

pub not_either : (a b : Bool) → T (not (a || b)) → (T a → ⊥) × (T b → ⊥)
not_either true b h = absurd h
not_either false true h = absurd h
not_either false false h = ((λ t. t), (λ t. t))

pub silent : (k : ℕ) → T (wordless k) → Possible k nothing
silent k h = Possible.silent {k = k} (λ e. T_not (eqb k IDENT) h (is_kind e))

-- A string is neither a name nor a number.
literal_neither : {k : ℕ} → spells.Quoted k → T (not (eqb k IDENT || eqb k FLOAT))
literal_neither spells.Quoted.double = tt
literal_neither spells.Quoted.single = tt
literal_neither spells.Quoted.double_verbatim = tt
literal_neither spells.Quoted.single_verbatim = tt
literal_neither spells.Quoted.block = tt

pub a_text : {k : ℕ} {v : Said} → Possible k v → Utf8 (said v)
unfolding said
a_text (Possible.name n) = name_utf8 n
a_text (Possible.numeral n) = numeral_utf8 n.numeral
a_text (Possible.string q u) = u
a_text (Possible.spoiled q) = Utf8.none
a_text (Possible.silent n) = Utf8.none

pub a_name : {k : ℕ} {v : Said} → Possible k v → T (eqb k IDENT) → NameText (said v)
unfolding said
a_name (Possible.name n) t = n
a_name (Possible.numeral n) t = absurd t
a_name (Possible.string {k} q u) t = absurd ((not_either (eqb k IDENT) (eqb k FLOAT) (literal_neither q)).0 t)
a_name (Possible.spoiled {k} q) t = absurd ((not_either (eqb k IDENT) (eqb k FLOAT) (literal_neither q)).0 t)
a_name (Possible.silent {k} n) t = absurd (n (eqb→eq k IDENT t))

pub a_numeral : {k : ℕ} {v : Said} → Possible k v → T (eqb k FLOAT) → T (good v) → NumberText (said v)
unfolding said good
a_numeral (Possible.name n) t g = absurd t
a_numeral (Possible.numeral n) t g = n
a_numeral (Possible.string {k} q u) t g = absurd ((not_either (eqb k IDENT) (eqb k FLOAT) (literal_neither q)).1 t)
a_numeral (Possible.spoiled {k} q) t g = absurd g
a_numeral (Possible.silent {k} n) t g = absurd g

pub said_numeral : {k : ℕ} {w : List ℕ} → Possible k (says w) → T (eqb k FLOAT) → NumberText w
unfolding said good
said_numeral p t = a_numeral p t tt

-- The next lexeme, and those after it; with none left it is EOF, which says nothing.
pub next_possible : {xs : List Lexeme} → Worded xs → Possible (kind_of xs) (word_of xs)
next_possible Worded.none = silent EOF tt
next_possible (Worded.more p w) = p

pub rest_worded : {xs : List Lexeme} → Worded xs → Worded (rest xs)
rest_worded Worded.none = Worded.none
rest_worded (Worded.more p w) = w

-- ── Of sources ────────────────────────────────────────────────────────────────────────────────────

take_nil : (n : ℕ) → ◌≡◌ {A = List ℕ} (take n []) []
take_nil zero = refl
take_nil (suc n) = refl

pub slice-part : (a e : ℕ) (s : List ℕ) → slice a e s ≡ part s a e
slice-part zero e s = let q : e ≡ e - zero = omega arith in ap (λ (n : ℕ). take n s) q
slice-part (suc a) zero s = let q : 0 ≡ 0 - suc a = omega arith in ap (λ (n : ℕ). take n (drop (suc a) s)) q
slice-part (suc a) (suc e) [] = sym (take_nil (suc e - suc a))
slice-part (suc a) (suc e) (x ∷ s) = let q : e - a ≡ suc e - suc a = omega arith in slice-part a e s ∙ ap (λ (n : ℕ). take n (drop a s)) q

module _ {s : List ℕ} (u : Utf8 s) where
  -- A text that it has is possible; and an identifier has one.
  meant : {k a e : ℕ} {w : List ℕ} → a < length s → LexemeAt s a (record { kind = k; start = a; end = e }) → Means s k a e w → Possible k (says w)
  meant {a = a} {e = e} h d name =
      let n = ident_is_identifier s h d refl in
      subst (λ (w : List ℕ). Possible IDENT (says w)) (sym (slice-part a e s)) (Possible.name (record { identifier = n.0; no_keyword = n.1 }))
  meant {a = a} {e = e} h d (number n) =
      Possible.numeral (record { numeral = subst (λ (w : List ℕ). Numeral (plain w)) (sym (slice-part a e s)) (float_is_numeral s h d refl); in_range = n })
  meant {a = a} {e = e} {w = w} h d (double q) =
      Possible.string spells.Quoted.double (double_decodes_utf8 s u h d refl (subst (λ (l : List ℕ). Quoted l w) (slice-part (a + 1) (e - 1) s) q))
  meant {a = a} {e = e} {w = w} h d (single q) =
      Possible.string spells.Quoted.single (single_decodes_utf8 s u h d refl (subst (λ (l : List ℕ). Quoted l w) (slice-part (a + 1) (e - 1) s) q))
  meant {a = a} {e = e} {w = w} h d (double_verbatim q) =
      Possible.string spells.Quoted.double_verbatim (double_verbatim_decodes_utf8 s u h d refl
      (subst (λ (l : List ℕ). Verbatim 0x22 l w) (slice-part (a + 2) (e - 1) s) q))
  meant {a = a} {e = e} {w = w} h d (single_verbatim q) =
      Possible.string spells.Quoted.single_verbatim (single_verbatim_decodes_utf8 s u h d refl
      (subst (λ (l : List ℕ). Verbatim 0x27 l w) (slice-part (a + 2) (e - 1) s) q))
  meant h d (block q) = Possible.string spells.Quoted.block (block_decodes_utf8 s u h d refl q)

  possible : {k a e : ℕ} {v : Said} → a < length s → LexemeAt s a (record { kind = k; start = a; end = e }) → Says s k a e v → Possible k v
  possible h d (its_text m) = meant h d m
  possible h d (its_escape (in_double x)) = Possible.spoiled spells.Quoted.double
  possible h d (its_escape (in_single x)) = Possible.spoiled spells.Quoted.single
  possible {k} {a} {e} h d (no_text n m) =
      Possible.silent (λ q. n (slice a e s) (subst (λ (j : ℕ). Means s j a e (slice a e s)) (sym q) name))

  pub worded : {at : ℕ} {ranges : List Range} {xs : List Lexeme} → lexemes.Kept s at ranges → Told s ranges xs → Worded xs
  worded k Told.none = Worded.none
  worded {at} k (Told.more {k = kind} {a = a} {e = e} {w = w} {xs = ranges} {ys = xs} x t) = by (kept_step k) (λ r. worded r t)
    where
      by : Rest s at (record { kind = kind; start = a; end = e } ∷ ranges) → (lexemes.Kept s e ranges → Worded xs)
          → Worded (record { kind = kind; start = a; stop = e; word = w } ∷ xs)
      by (Rest.next f g l d n r) on = Worded.more (possible (omega arith) d x) (on r)

-- THE LEXEMES OF A UTF-8 SOURCE SAY WHAT IS POSSIBLE.
pub kept_worded : {source : List ℕ} {xs : List Lexeme} → Utf8 source → Kept source xs → Worded xs
kept_worded u (kept b k t) = worded u k t

-- What literals mean: each has one text at most, no longer than the literal, or a bad escape in it, and decoders find it.
-- Assumes nothing.
use mathlib.Core.Path.{◌≡◌, refl, sym, ap, subst, subst⁻¹, ◌∙◌}
use mathlib.Core.Bool.{Bool, true, false, cond}
use mathlib.Core.List.{List, [], ◌∷◌, ◌++◌, append-nil}
use mathlib.Core.Logic.{◌⊎◌, inl, inr}
use Prim.Native.Nat.{ℕ, suc, ◌+◌, ◌-◌, ◌≤◌, ◌<◌}
use native.Mathlib.Omega.{arith}
use native.Mathlib.Numerals.{add-one}
use lib.Dec.{eqb}
use borrow.Author.Tests.{eq-eqb, ne_eqb}
use lib.ListN.{length, get_or, set, take, drop, length-append}
use lib.Seq.{sets, slice, length-slice, take-suc}
use Rattle.std.specs.Prelude.{Ok, Err}
use Rattle.strings.specs.Decoding.{Decoded, Decoding, text as decoded, refused, Never, Missing}
use Rattle.strings.specs.Literals.{Quoted, BadEscape, Verbatim}
use Rattle.strings.specs.declared.Refused.{Refused}
use Rattle.strings.proofs.LiteralLaws.{quoted_short, verbatim_short, bad_escape_within}
use Rattle.strings.proofs.Stores.{sets_append}
use Rattle.blocks.specs.Blocks.{BlockAt, BlockText}
use Rattle.std.specs.Prelude.{Ok}
use Rattle.blocks.proofs.Laws.{text_short, never_refused}
use Rattle.numerals.specs.Value.{TooLarge}
use Rattle.grammar.specs.Lexemes.{Lexeme, Said, says, spoiled, nothing}
use Rattle.grammar.specs.Says.{Says, its_text, its_escape, no_text, Means, name, number, double, single, double_verbatim, single_verbatim, block, Spoils, in_double, in_single}
use Rattle.lexemes.specs.Texts.{plain}
use Rattle.grammar.proofs.SaysLaws.{says_once, no_spoils}
use Rattle.grammar.specs.Productions.{Phrase, Body, goto, rule}
use Rattle.grammar.specs.Reading.{choose}
use Rattle.leaves.specs.Lexing.{Stands, Quoting, double as quoting-double, single as quoting-single, double_verbatim as quoting-double-verbatim, single_verbatim as quoting-single-verbatim, block as quoting-block}
use Rattle.leaves.specs.Meets.{power, State, state, Seg}
use Rattle.leaves.proofs.LexemeLaws.{lies, sight, seen}
use Rattle.leaves.proofs.PartLaws.{lent}
use Rattle.leaves.proofs.Steps
use Rattle.leaves.specs.declared.Cursor.{Cursor}

-- ── Numbers without underscores ───────────────────────────────────────────────────────────────────

pub plain_short : (xs : List ℕ) → length (plain xs) ≤ length xs
unfolding plain
plain_short [] = omega arith
plain_short (b ∷ xs) = go (eqb b 0x5F) (plain_short xs)
  where
    go : (t : Bool) → length (plain xs) ≤ length xs → length (cond t (plain xs) (b ∷ plain xs)) ≤ suc (length xs)
    go true h = omega arith
    go false h = omega arith

plain_append : (xs ys : List ℕ) → plain (xs ++ ys) ≡ plain xs ++ plain ys
unfolding plain
plain_append [] ys = refl
plain_append (b ∷ xs) ys = go (eqb b 0x5F) (plain_append xs ys)
  where
    go : (t : Bool) → plain (xs ++ ys) ≡ plain xs ++ plain ys
        → cond t (plain (xs ++ ys)) (b ∷ plain (xs ++ ys)) ≡ cond t (plain xs) (b ∷ plain xs) ++ plain ys
    go true h = h
    go false h = ap (λ (l : List ℕ). b ∷ l) h

plain-next : (xs : List ℕ) (i : ℕ) → i < length xs → plain (take (i + 1) xs) ≡ plain (take i xs) ++ plain (get_or xs i 0 ∷ [])
plain-next xs i h = ap (λ (n : ℕ). plain (take n xs)) (add-one i) ∙ ap plain (take-suc xs i 0 h) ∙ plain_append (take i xs) (get_or xs i 0 ∷ [])

under : (b : ℕ) → b ≡ 0x5F → plain (b ∷ []) ≡ []
unfolding plain
under b e = ap (λ (t : Bool). cond t [] (b ∷ [])) (eq-eqb b 0x5F e)

other : (b : ℕ) → ¬ (b ≡ 0x5F) → plain (b ∷ []) ≡ b ∷ []
unfolding plain
other b e = ap (λ (t : Bool). cond t [] (b ∷ [])) (ne_eqb b 0x5F e)

pub plain_skips : (xs : List ℕ) (i : ℕ) → i < length xs → get_or xs i 0 ≡ 0x5F → plain (take (i + 1) xs) ≡ plain (take i xs)
plain_skips xs i h e = plain-next xs i h ∙ ap (λ (l : List ℕ). plain (take i xs) ++ l) (under (get_or xs i 0) e) ∙ append-nil (plain (take i xs))

pub plain_takes : (xs : List ℕ) (i : ℕ) → i < length xs → ¬ (get_or xs i 0 ≡ 0x5F) → plain (take (i + 1) xs) ≡ plain (take i xs) ++ (get_or xs i 0 ∷ [])
plain_takes xs i h e = plain-next xs i h ∙ ap (λ (l : List ℕ). plain (take i xs) ++ l) (other (get_or xs i 0) e)

-- what is written of a number so far
pub record Plainly (xs out₀ : List ℕ) (i n : ℕ) (out : List ℕ) : Type 0 where
  pub within : i ≤ length xs
  pub count : n ≡ length (plain (take i xs))
  pub stored : out ≡ sets out₀ 0 (plain (take i xs))
  pub less : n ≤ i

pub plainly_begun : (xs out : List ℕ) → Plainly xs out 0 0 out
unfolding plain
plainly_begun xs out = record { within = omega arith; count = refl; stored = refl; less = omega arith }

pub plainly_skips : {xs out₀ out : List ℕ} {i n : ℕ} → Plainly xs out₀ i n out → i < length xs → get_or xs i 0 ≡ 0x5F → Plainly xs out₀ (i + 1) n out
plainly_skips {xs} {out₀} {i = i} p h e =
    let q = plain_skips xs i h e in
    record {
      within = omega arith;
      count = p.count ∙ ap length (sym q);
      stored = p.stored ∙ ap (λ (l : List ℕ). sets out₀ 0 l) (sym q);
      less = omega (arith, p.less);
    }

pub plainly_takes : {xs out₀ out out₁ : List ℕ} {i n : ℕ} → Plainly xs out₀ i n out → i < length xs → ¬ (get_or xs i 0 ≡ 0x5F) → out₁ ≡ set out n (get_or xs i 0)
    → Plainly xs out₀ (i + 1) (n + 1) out₁
plainly_takes {xs} {out₀} {i = i} {n} p h e u =
    let q = plain_takes xs i h e in
    let k : n ≡ 0 + length (plain (take i xs)) = omega (arith, p.count) in
    record {
      within = omega arith;
      count = omega (arith, p.count, ap length q, length-append (plain (take i xs)) (get_or xs i 0 ∷ []));
      stored =
          u ∙ ap (λ (l : List ℕ). set l n (get_or xs i 0)) p.stored ∙ sets_append out₀ 0 n (plain (take i xs)) (get_or xs i 0 ∷ []) k
          ∙ ap (λ (l : List ℕ). sets out₀ 0 l) (sym q);
      less = omega (arith, p.less);
    }

-- ── Decoders ──────────────────────────────────────────────────────────────────────────────────────

-- a decoder's text
pub found : {P : List ℕ → Type 0} {F : ℕ → Type 0} {out out₁ : List ℕ} {d : Decoded} {n : ℕ} → Decoding P F out d out₁ → d ≡ Ok n
    → (t : List ℕ) × P t × (n ≡ length t) × (out₁ ≡ sets out 0 t)
found (decoded {t} m) e = (t, m, cc, refl)
found (refused f) e = absurd (let z : ◌≡◌ {A = ℕ} 0 1 = cc in omega arith)

-- or its fault
pub fault_found : {P : List ℕ → Type 0} {F : ℕ → Type 0} {out out₁ : List ℕ} {d : Decoded} {r : Refused} → Decoding P F out d out₁ → d ≡ Err r → F r.at
fault_found (decoded m) e = absurd (let z : ◌≡◌ {A = ℕ} 0 1 = cc in omega arith)
fault_found {F = F} {r = r} (refused {n = m} f) e =
    let q : ◌≡◌ {A = Refused} (record { at = m }) r = cc in
    subst F (ap (λ (x : Refused). x.at) q) f

-- the same text or fault, said otherwise
decodes : {P Q : List ℕ → Type 0} {F G : ℕ → Type 0} {out out₁ : List ℕ} {d : Decoded} → ((t : List ℕ) → P t → Q t) → ((n : ℕ) → F n → G n) → Decoding P F out d out₁
    → Decoding Q G out d out₁
decodes f g (decoded {t} m) = decoded (f t m)
decodes f g (refused {n} h) = refused (g n h)

-- of a part of the source
pub decodes_lent : (P : List ℕ → List ℕ → Type 0) (F : List ℕ → ℕ → Type 0) (s : List ℕ) (a e : ℕ) {out out₁ : List ℕ} {d : Decoded}
    → Decoding (P (take (e - a) (drop a s))) (F (take (e - a) (drop a s))) out d out₁ → Decoding (P (slice a e s)) (F (slice a e s)) out d out₁
decodes_lent P F s a e {out} {out₁} {d} h = subst (λ (l : List ℕ). Decoding (P l) (F l) out d out₁) (lent a e s) h

-- ── Meanings ──────────────────────────────────────────────────────────────────────────────────────

module _ {s : List ℕ} {k a e : ℕ} {out out₁ : List ℕ} {d : Decoded} where
  kind_is : {j : ℕ} → k ≡ j → Decoding (Means s j a e) (Spoils s j a e) out d out₁ → Decoding (Means s k a e) (Spoils s k a e) out d out₁
  kind_is q h = subst⁻¹ (λ (i : ℕ). Decoding (Means s i a e) (Spoils s i a e) out d out₁) q h

  pub decodes_block : k ≡ 50 → BlockAt s (a + 3) (Ok e) → Decoding (BlockText (drop (a + 3) s)) (Missing (BlockText (drop (a + 3) s))) out d out₁
      → Decoding (Means s k a e) (Spoils s k a e) out d out₁
  decodes_block q g h = kind_is q (decodes (λ t m. block m) (λ n f. absurd (never_refused g f)) h)

  pub decodes_double_verbatim : k ≡ 45 → Decoding (Verbatim 0x22 (slice (a + 2) (e - 1) s)) Never out d out₁ → Decoding (Means s k a e) (Spoils s k a e) out d out₁
  decodes_double_verbatim q h = kind_is q (decodes (λ t m. double_verbatim m) (λ n f. absurd f) h)

  pub decodes_single_verbatim : k ≡ 47 → Decoding (Verbatim 0x27 (slice (a + 2) (e - 1) s)) Never out d out₁ → Decoding (Means s k a e) (Spoils s k a e) out d out₁
  decodes_single_verbatim q h = kind_is q (decodes (λ t m. single_verbatim m) (λ n f. absurd f) h)

  pub decodes_quoted : (k ≡ 41) ⊎ (k ≡ 43) → Decoding (Quoted (slice (a + 1) (e - 1) s)) (BadEscape (slice (a + 1) (e - 1) s)) out d out₁
      → Decoding (Means s k a e) (Spoils s k a e) out d out₁
  decodes_quoted (inl q) h = kind_is q (decodes (λ t m. double m) (λ n f. in_double f) h)
  decodes_quoted (inr q) h = kind_is q (decodes (λ t m. single m) (λ n f. in_single f) h)

-- a quoted literal's kind
pub plainly_quoted : {k : ℕ} → Quoting k → ¬ (k ≡ 50) → ¬ (k ≡ 45) → ¬ (k ≡ 47) → (k ≡ 41) ⊎ (k ≡ 43)
plainly_quoted quoting-double a b c = inl refl
plainly_quoted quoting-single a b c = inr refl
plainly_quoted quoting-double-verbatim a b c = absurd (b refl)
plainly_quoted quoting-single-verbatim a b c = absurd (c refl)
plainly_quoted quoting-block a b c = absurd (a refl)

-- and length
pub quoted_long : {s : List ℕ} {c : Cursor} → Stands s c → (c.kind ≡ 41) ⊎ (c.kind ≡ 43) → c.start + 2 ≤ c.end
quoted_long st (inl q) = (lies st).quoted q
quoted_long st (inr q) = (lies st).quoted' q

pub a_lexeme : {k : ℕ} → Quoting k → 1 < k
a_lexeme quoting-double = omega arith
a_lexeme quoting-single = omega arith
a_lexeme quoting-double-verbatim = omega arith
a_lexeme quoting-single-verbatim = omega arith
a_lexeme quoting-block = omega arith

-- no longer than the lexeme
pub means_short : {s : List ℕ} {c : Cursor} {k : ℕ} {t : List ℕ} → Stands s c → c.kind ≡ k → Means s k c.start c.end t → length t ≤ c.end - c.start
means_short {s} {c} st q name = omega (arith, length-slice c.start c.end s (lies st).within)
means_short {s} {c} st q (number n) = omega (arith, plain_short (slice c.start c.end s), length-slice c.start c.end s (lies st).within)
means_short {s} {c} st q (double p) = let w = (lies st).within in omega (arith, quoted_short p, length-slice (c.start + 1) (c.end - 1) s (omega arith))
means_short {s} {c} st q (single p) = let w = (lies st).within in omega (arith, quoted_short p, length-slice (c.start + 1) (c.end - 1) s (omega arith))
means_short {s} {c} st q (double_verbatim p) = let w = (lies st).within in omega (arith, verbatim_short p, length-slice (c.start + 2) (c.end - 1) s (omega arith))
means_short {s} {c} st q (single_verbatim p) = let w = (lies st).within in omega (arith, verbatim_short p, length-slice (c.start + 2) (c.end - 1) s (omega arith))
means_short {s} {c} st q (block p) = omega (arith, text_short ((lies st).block' q) p)

-- a bad escape is a quoted literal's, and within it
pub spoils_kind : {s : List ℕ} {k a e n : ℕ} → Spoils s k a e n → 1 < k
spoils_kind (in_double p) = omega arith
spoils_kind (in_single p) = omega arith

pub spoils_within : {s : List ℕ} {k a e n : ℕ} → e ≤ length s → Spoils s k a e n → a + 1 + n < e
spoils_within {s} {a = a} {e = e} w (in_double p) = omega (arith, (bad_escape_within p).0, length-slice (a + 1) (e - 1) s (omega arith))
spoils_within {s} {a = a} {e = e} w (in_single p) = omega (arith, (bad_escape_within p).0, length-slice (a + 1) (e - 1) s (omega arith))

-- what a lexeme says
pub says_it : {s : List ℕ} {k a e : ℕ} {w : Said} {t : List ℕ} → Says s k a e w → Means s k a e t → w ≡ says t
says_it x m = says_once x (its_text m)

pub says_spoiled : {s : List ℕ} {k a e n : ℕ} {w : Said} → Says s k a e w → Spoils s k a e n → w ≡ spoiled n
says_spoiled x f = says_once x (its_escape f)

-- a number that is too large says nothing
pub says_nothing : {s : List ℕ} {k a e : ℕ} {w : Said} → k ≡ 37 → Says s k a e w → TooLarge (plain (slice a e s)) → w ≡ nothing
says_nothing {s} {k} {a} {e} q x l = says_once x (no_text (λ t m. back t m l) (no_spoils (λ i. omega (arith, i, q)) (λ i. omega (arith, i, q))))
  where
    of_number : (t : List ℕ) → Means s 37 a e t → TooLarge (plain (slice a e s)) → ⊥
    of_number t (number n) = n

    back : (t : List ℕ) → Means s k a e t → TooLarge (plain (slice a e s)) → ⊥
    back t m = of_number t (subst (λ (j : ℕ). Means s j a e t) q m)

module _ {g : ℕ} {s : List ℕ} {d : ℕ} {from : State} {q : Phrase} {n e v w : ℕ} {c : Cursor} {o : List ℕ} where
  -- the next lexeme has this text
  pub meaning : (b : Body) {k : ℕ} {t : List ℕ} → Stands s c → c.kind ≡ k → 1 < k → Means s k c.start c.end t
      → ((xs : List Lexeme) → choose g (rule (power g) q (sight c xs n k (says t))) ≡ b) → Seg g s d from e v (state (goto q) n c w o) → Seg g s d from e v (state b n c w o)
  meaning b {k} {t} st i h m f p =
      let m' = subst⁻¹ (λ (j : ℕ). Means s j c.start c.end t) i m in
      Steps.goes b st (λ xs y. seen (power g) g q n y i (says_it (y.says (λ z. omega (arith, z, i, h))) m') ∙ f xs) p

  -- this one is a number, and too large
  pub exceeding : (b : Body) → Stands s c → c.kind ≡ 37 → TooLarge (plain (slice c.start c.end s))
      → ((xs : List Lexeme) → choose g (rule (power g) q (sight c xs n 37 nothing)) ≡ b) → Seg g s d from e v (state (goto q) n c w o) → Seg g s d from e v (state b n c w o)
  exceeding b st i l f p = Steps.goes b st (λ xs y. seen (power g) g q n y i (says_nothing i (y.says (λ z. omega (arith, z, i))) l) ∙ f xs) p

  -- and this one has this bad escape
  pub spoiling : (b : Body) {m : ℕ} → Stands s c → Spoils s c.kind c.start c.end m
      → ((xs : List Lexeme) → choose g (rule (power g) q (sight c xs n c.kind (spoiled m))) ≡ b) → Seg g s d from e v (state (goto q) n c w o) → Seg g s d from e v (state b n c w o)
  spoiling b st m f p = Steps.goes b st (λ xs y. seen (power g) g q n y refl (says_spoiled (y.says (λ z. omega (arith, z, spoils_kind m))) m) ∙ f xs) p

-- BOTH READERS, OF ONE TEXT: theorems about the importer of JSON and the reader of Jsonnet under setting 0 together. What they promise is
-- `Imports` (crates/json_import/specs/Importer.antt) and `Reads` (crates/reader/specs/Reader.antt); `HasSolidus` is the escape `\/` in a string.
-- Assumes nothing.
use mathlib.Core.Path.{◌≡◌, refl, sym, ap, subst, ◌∙◌}
use mathlib.Core.List.{List, ◌++◌}
use mathlib.Core.Logic.{◌⊎◌, inl, inr, ⊎_elim}
use Prim.Native.Nat.{ℕ}
use native.Mathlib.Omega.{arith}
use lib.ListN.{length, take, replicate}
use lib.Seq.{take_at}
use Rattle.std.specs.Prelude.{Ok}
use Rattle.lexemes.proofs.KeptLaws.{kept_none_bad}
use Rattle.grammar.specs.Numbers.{TREE, ROOM, DEPTH, LARGE, ESCAPE}
use Rattle.grammar.specs.Trees.{Trees}
use Rattle.grammar.specs.Image.{image}
use Rattle.grammar.specs.Lexemes.{Lexeme}
use Rattle.grammar.specs.Reading.{published}
use Rattle.grammar.specs.Answer.{Answer, Verdict, refused, tree, verdict, answer, output, prefix_power, document_01}
use Rattle.grammar.specs.Answer as grammar
use Rattle.grammar.specs.Source.{Bad, Kept, kept}
use Rattle.grammar.proofs.Whole.{Accepted}
use Rattle.json_import.specs.Tokens.{At, ◌▹◌}
use Rattle.json_import.specs.Values.{Part, Reads as Derives, broken}
use Rattle.json_import.specs.Values as values
use Rattle.json_import.specs.Json.{Text, Judged, ReadsJson}
use Rattle.json_import.specs.Json as json
use Rattle.json_import.specs.Importer.{Importing, Imports}
use Rattle.json_import.specs.Importer as imports
use Rattle.reader.specs.Reader.{Reading, Reads, numbers}
use Rattle.reader.proofs.AnswerLaws.{fits-output, tree-answer}
use Rattle.reader.proofs.Demands.{answers_found}
use Rattle.both.specs.Solidus.{HasSolidus, SolidusAt}
use Rattle.both.proofs.Lexed.{Left}
use Rattle.both.proofs.Values.{Whole, alike, text_read}
use Rattle.both.proofs.Values as whole

-- ── What both make of a text ──────────────────────────────────────────────────────────────────────

-- Of a text that the importer finds this tree of: the reader finds the same, and the text has no `\/`; or refuses it with number 9 at a `\/`, and it has.
pub data Found (s : List ℕ) (t : Trees) : Type 0 where
  same : grammar.Judged Bad Kept document_01 0 s (tree t) → (HasSolidus s → ⊥) → Found s t
  nine : {a e x : ℕ} → grammar.Judged Bad Kept document_01 0 s (refused ESCAPE a e x) → SolidusAt s x → HasSolidus s → Found s t

pub both_find : {s : List ℕ} {t : Trees} → Judged s (tree t) → Found s t
unfolding verdict prefix_power published
both_find {s} {t} (json.Judged.read l u x) = let y = text_read u x in by y.1 y.2
  where
    lexemes : {xs : List Lexeme} → Left s (0 ▹ s) xs → Kept s xs
    lexemes y = kept (kept_none_bad y.kept y.good) y.kept y.told

    by : {xs : List Lexeme} → Left s (0 ▹ s) xs → Whole s t xs → Found s t
    by y (alike r n) = same (grammar.Judged.read refl l u (lexemes y) r) n
    by y (whole.refused r p q) = nine (grammar.Judged.read refl l u (lexemes y) r) p q

-- ── An answer with a tree ─────────────────────────────────────────────────────────────────────────

-- The importer breaks off with numbers 11 and 17 only.
broken_by : {Deep : ℕ → Type 0} {Large : List ℕ → Type 0} {part : Part} {k n a e : ℕ} {h : At} → Derives Deep Large part k h (broken n a e) → (n ≡ DEPTH) ⊎ (n ≡ LARGE)
broken_by (values.Reads.too_deep d b) = inl refl
broken_by (values.Reads.positive r) = broken_by r
broken_by (values.Reads.minus_broken n r) = broken_by r
broken_by (values.Reads.deep_number d b) = inl refl
broken_by (values.Reads.large n l v) = inr refl
broken_by (values.Reads.array_broken n w r) = broken_by r
broken_by (values.Reads.element_broken r) = broken_by r
broken_by (values.Reads.elements_broken r a l) = broken_by l
broken_by (values.Reads.object_broken n w r) = broken_by r
broken_by (values.Reads.member_broken m r) = broken_by r
broken_by (values.Reads.members_broken m r a l) = broken_by l

no_tree : {s : List ℕ} {n a e x : ℕ} → Judged s (refused n a e x) → (n ≡ TREE) ⊎ (n ≡ ROOM) → ⊥
no_tree (json.Judged.too_long l) (inl q) = omega (arith, q)
no_tree (json.Judged.too_long l) (inr q) = omega (arith, q)
no_tree (json.Judged.not_utf8 l v h) (inl q) = omega (arith, q)
no_tree (json.Judged.not_utf8 l v h) (inr q) = omega (arith, q)
no_tree (json.Judged.read l u (json.Text.broken_off w r)) (inl q) = ⊎_elim (λ e. omega (arith, sym e ∙ q)) (λ e. omega (arith, sym e ∙ q)) (broken_by r)
no_tree (json.Judged.read l u (json.Text.broken_off w r)) (inr q) = ⊎_elim (λ e. omega (arith, sym e ∙ q)) (λ e. omega (arith, sym e ∙ q)) (broken_by r)
no_tree (json.Judged.not_json l u f c) (inl q) = omega (arith, q)
no_tree (json.Judged.not_json l u f c) (inr q) = omega (arith, q)

-- What the importer accepts has a tree, and the answer and the output are that tree's.
pub imported : {s : List ℕ} {room : ℕ} {a : Answer} {out : List ℕ} → ReadsJson s room a out → Accepted a
    → (t : Trees) × Judged s (tree t) × (a ≡ answer room (tree t)) × (out ≡ output room (tree t))
unfolding answer
imported {s} {room} {a} {out} x h = by x.found x.judged x.answered x.written (subst Accepted x.answered h)
  where
    by : (v : Verdict) → Judged s v → a ≡ answer room v → out ≡ output room v → Accepted (answer room v)
        → (t : Trees) × Judged s (tree t) × (a ≡ answer room (tree t)) × (out ≡ output room (tree t))
    by (refused n b e d) j p q h = absurd (no_tree j h)
    by (tree t) j p q h = (t, j, p, q)

-- ── The theorems ──────────────────────────────────────────────────────────────────────────────────

-- A call of `read_json` and a call of `read` under setting 0 on one text, with outputs of one length, whatever these held.
module _ (s : List ℕ) (out₀ : List ℕ) (importing : Importing) (out₁ : List ℕ) (x : Imports s out₀ importing out₁)
    (out : List ℕ) (reading : Reading) (out₂ : List ℕ) (y : Reads 0 s out reading out₂) (one-length : length out₀ ≡ length out) where
  -- What the importer accepts (0, or 12 for room) the reader answers alike, to the last byte of the output; but for a text with `\/`, which it
  -- refuses with number 9.
  pub both : Accepted (imports.numbers importing)
      → ((HasSolidus s → ⊥) × (numbers reading ≡ imports.numbers importing) × (out₂ ≡ out₁))
      ⊎ (HasSolidus s × ((numbers reading).number ≡ ESCAPE) × SolidusAt s (numbers reading).detail × (out₂ ≡ replicate (length out) 0))
  unfolding answer output
  both h = let z = imported x h in by z.2 z.3 (both_find z.1)
    where
      by : {t : Trees} → imports.numbers importing ≡ answer (length out₀) (tree t) → out₁ ≡ output (length out₀) (tree t) → Found s t
          → ((HasSolidus s → ⊥) × (numbers reading ≡ imports.numbers importing) × (out₂ ≡ out₁))
          ⊎ (HasSolidus s × ((numbers reading).number ≡ ESCAPE) × SolidusAt s (numbers reading).detail × (out₂ ≡ replicate (length out) 0))
      by {t} p q (same j n) =
          let z = answers_found 0 s out reading out₂ y j in
          inl (n, z.0 ∙ ap (λ (room : ℕ). answer room (tree t)) (sym one-length) ∙ sym p, z.1 ∙ ap (λ (room : ℕ). output room (tree t)) (sym one-length) ∙ sym q)
      by p q (nine j l n) =
          let z = answers_found 0 s out reading out₂ y j in
          inr (n, ap (λ (b : Answer). b.number) z.0, subst (λ (b : Answer). SolidusAt s b.detail) (sym z.0) l, z.1)

  -- READ TOO: a text that the importer accepts and that has no `\/` is accepted by the reader, with the same answer and the same image.
  pub read_too : Accepted (imports.numbers importing) → (HasSolidus s → ⊥) → (numbers reading ≡ imports.numbers importing) × (out₂ ≡ out₁)
  read_too h n = ⊎_elim (λ z. (z.1, z.2)) (λ z. absurd (n z.0)) (both h)

  -- ONLY THE IMPORTER: one that has a `\/` is refused by the reader, with number 9, whose detail is the byte at which a `\/` begins.
  pub only_imported : Accepted (imports.numbers importing) → HasSolidus s
      → ((numbers reading).number ≡ ESCAPE) × SolidusAt s (numbers reading).detail × (out₂ ≡ replicate (length out) 0)
  only_imported h q = ⊎_elim (λ z. absurd (z.0 q)) (λ z. (z.1, z.2, z.3)) (both h)

  -- THE SAME IMAGE: a text that both accept has one answer and one image, spans included.
  pub same_image : Accepted (imports.numbers importing) → Accepted (numbers reading) → (numbers reading ≡ imports.numbers importing) × (out₂ ≡ out₁)
  same_image h (inl e) = ⊎_elim (λ z. (z.1, z.2)) (λ z. absurd (omega (arith, sym e ∙ z.1))) (both h)
  same_image h (inr e) = ⊎_elim (λ z. (z.1, z.2)) (λ z. absurd (omega (arith, sym e ∙ z.1))) (both h)

-- With outputs of any two lengths: where both answer 0, the image's length is the same, and so are its bytes.
module _ (s out₀ : List ℕ) (m : ℕ) (out₁ : List ℕ) (x : Imports s out₀ (Ok m) out₁) (out : List ℕ) (n : ℕ) (out₂ : List ℕ) (y : Reads 0 s out (Ok n) out₂) where
  pub same_bytes : (m ≡ n) × (take m out₁ ≡ take n out₂)
  unfolding answer numbers imports.numbers
  same_bytes = let z = imported x (inl refl) in by z.2 z.3 (both_find z.1)
    where
      front : (t : Trees) {u : List ℕ} (k : ℕ) (v : List ℕ) → u ≡ image t ++ v → k ≡ length (image t) → take k u ≡ image t
      front t k v e q = ap (take k) e ∙ take_at (image t) v k (sym q)

      by : {t : Trees} → imports.tree_of TREE m ≡ answer (length out₀) (tree t) → out₁ ≡ output (length out₀) (tree t) → Found s t → (m ≡ n) × (take m out₁ ≡ take n out₂)
      by {t} p q (same j l) =
          let z = answers_found 0 s out (Ok n) out₂ y j in
          let e = tree-answer (length out) t n z.0 in
          let f = tree-answer (length out₀) t m p in
          (f.0 ∙ sym e.0, front t m _ (q ∙ fits-output (length out₀) t f.1) f.0 ∙ sym (front t n _ (z.1 ∙ fits-output (length out) t e.1) e.0))
      by p q (nine j o l) = absurd (omega (arith, ap (λ (b : Answer). b.number) (answers_found 0 s out (Ok n) out₂ y j).0))

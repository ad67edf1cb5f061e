-- COMMENTS CAN'T MATTER, and number 10 is never answered: 02, Item 10, as theorems about `read`.
--
-- Two sources whose kept lexemes agree in kind and text (`SameLexemes`, crates/lexemes/specs/Same.antt) differ in white space and comments only. If both
-- are UTF-8 and within the limits, then under one setting and with outputs of one length `read` gives both the same number, detail and length, leaves the
-- same image but for spans (`Alike`, crates/grammar/specs/Alike.antt), and a refusal stands at the same kept lexeme, or at the end for both
-- (`Place`). The detail of number 9 is a place: it is as far behind its lexeme's start in both. `./sametree` says of two files whether this is so.
-- Assumes nothing.
use mathlib.Core.Path.{◌≡◌, refl, sym, ap, subst, ◌∙◌}
use mathlib.Core.Bool.{Bool, true, false, cond}
use mathlib.Core.List.{List, ◌++◌}
use Prim.Native.Nat.{ℕ, ◌-◌, ◌≤◌}
use native.Mathlib.Omega.{arith}
use lib.Dec.{T, leb}
use lib.ListN.{length, replicate}
use Rattle.strings.specs.Utf8.{Utf8}
use Rattle.lexemes.specs.Same.{SameLexemes, Place}
use Rattle.grammar.specs.Numbers.{TREE, ESCAPE, fits, at_lexeme}
use Rattle.grammar.specs.Trees.{Trees}
use Rattle.grammar.specs.Alike.{Alike}
use Rattle.grammar.specs.Image.{image}
use Rattle.grammar.specs.Answer.{Answer, Verdict, tree, answer, output}
use Rattle.grammar.specs.Source.{Reads01}
use Rattle.grammar.specs.SameAnswers.{SameDetail, SameVerdict, equal, as_far, trees, settings, refusals}
use Rattle.grammar.proofs.ImageLaws.{alike_length}
use Rattle.grammar.proofs.Source.{reads_fit}
use Rattle.grammar.proofs.SameSources.{same_judged}
use Rattle.reader.specs.Reader.{Reading, numbers, Reads}
use Rattle.reader.proofs.AnswerLaws.{has_room}

-- What two answers, and the two outputs of so many bytes that are left, have in common.
pub record SameAnswers {s t : List ℕ} (x : SameLexemes s t) (room : ℕ) (a b : Answer) (out out₁ : List ℕ) : Type 0 where
  pub number : a.number ≡ b.number
  pub size : a.size ≡ b.size
  pub detail : ¬ (a.number ≡ ESCAPE) → a.detail ≡ b.detail
  -- A number that stands at a lexeme stands at the i-th of the one source and at the i-th of the other.
  pub place : T (at_lexeme a.number) → (i : ℕ) × Place 0 x.left i a.start a.stop × Place 0 x.right i b.start b.stop × SameDetail a.number a.start a.detail b.start b.detail
  pub trees : a.number ≡ TREE
      → (ts : Trees) × (us : Trees) × Alike ts us × (out ≡ image ts ++ replicate (room - length (image ts)) 0) × (out₁ ≡ image us ++ replicate (room - length (image us)) 0)

-- Where the same is found out about both, the answers and the outputs are the same.
module _ {s t : List ℕ} (x : SameLexemes s t) (room : ℕ) where
  same_detail : {n a d b e : ℕ} → SameDetail n a d b e → ¬ (n ≡ ESCAPE) → d ≡ e
  same_detail (equal h) g = refl
  same_detail (as_far o) g = absurd (g refl)

  tree-output : (ts : Trees) → (answer room (tree ts)).number ≡ TREE → output room (tree ts) ≡ image ts ++ replicate (room - length (image ts)) 0
  unfolding answer output
  tree-output ts e = ap (λ (b : Bool). cond b (image ts ++ replicate (room - length (image ts)) 0) (replicate room 0)) (has_room (leb (length (image ts)) room) (sym e))

  no_place : (b : Bool) → T (at_lexeme (cond b 0 12)) → ⊥
  unfolding at_lexeme
  no_place true h = h
  no_place false h = h

  no_tree : (n : ℕ) → T (at_lexeme n) → n ≡ TREE → ⊥
  unfolding at_lexeme
  no_tree n h e = subst (λ (m : ℕ). T (at_lexeme m)) e h

  same_answers : {v w : Verdict} → SameVerdict x.left x.right v w → SameAnswers x room (answer room v) (answer room w) (output room v) (output room w)
  unfolding answer output at_lexeme
  same_answers (trees {ts} {us} a) =
      let l = alike_length a in
      let n : (answer room (tree ts)).number ≡ (answer room (tree us)).number = ap (λ (k : ℕ). cond (leb k room) 0 12) l in
      record {
        number = n;
        size = l;
        detail = λ h. refl;
        place = λ h. absurd (no_place (leb (length (image ts)) room) h);
        trees = λ e. (ts, us, a, tree-output ts e, tree-output us (sym n ∙ e));
      }
  same_answers settings = record { number = refl; size = refl; detail = λ h. refl; place = λ h. absurd h; trees = λ e. absurd (omega (arith, e)) }
  same_answers (refusals {n} {i = i} h p q d) =
      record { number = refl; size = refl; detail = same_detail d; place = λ g. (i, p, q, d); trees = λ e. absurd (no_tree n h e) }

  told : {a a' b b' : Answer} {o o' p p' : List ℕ} → a ≡ a' → b ≡ b' → o ≡ o' → p ≡ p' → SameAnswers x room a' b' o' p' → SameAnswers x room a b o p
  told {a} {a'} {b} {b'} {o} {o'} {p} {p'} i j k l z =
      subst (λ (y : Answer). SameAnswers x room y b o p) (sym i) (subst (λ (y : Answer). SameAnswers x room a' y o p) (sym j)
      (subst (λ (y : List ℕ). SameAnswers x room a' b' y p) (sym k) (subst (λ (y : List ℕ). SameAnswers x room a' b' o' y) (sym l) z)))

-- COMMENTS CAN'T MATTER.
module _ (setting : ℕ) (s t out out₁ : List ℕ) (one-length : length out₁ ≡ length out) (r r₁ : Reading) (out' out₁' : List ℕ) where
  pub comments_cannot_matter : Utf8 s → Utf8 t → length s ≤ 65000 → length t ≤ 65000 → (x : SameLexemes s t) → Reads setting s out r out' → Reads setting t out₁ r₁ out₁'
      → SameAnswers x (length out) (numbers r) (numbers r₁) out' out₁'
  comments_cannot_matter u u' h h' x a b =
      let c = subst (λ (room : ℕ). Reads01 setting t room (numbers r₁) out₁') one-length b in
      told x (length out) a.answered c.answered a.written c.written (same_answers x (length out) (same_judged x u u' h h' a.judged c.judged))

-- NUMBER 10 IS NEVER ANSWERED, for any setting, source and output.
pub never_ten : (setting : ℕ) (source out : List ℕ) (reading : Reading) (out' : List ℕ) → Reads setting source out reading out' → (numbers reading).number ≡ 10 → ⊥
unfolding fits
never_ten setting source out reading out' x e =
    subst (λ (n : ℕ). T (fits n (numbers reading).start (numbers reading).stop (numbers reading).detail (numbers reading).size)) e (reads_fit x)

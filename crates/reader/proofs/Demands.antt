-- THE DEMANDS ON THE READER, as theorems about `read`. What it promises is `Reads setting source out reading out'` (specs/Reader.antt): of a
-- setting, a source and an output as it was lent, which answer it gives and what it leaves in the output, as document 01 has them (`Reads01`,
-- crates/grammar/specs/Source.antt). `HasTree` says that the rules (crates/grammar/specs/Productions.antt) derive a tree of the source; `Spelled`
-- that its lexemes spell one, told without a parser (crates/grammar/specs/Spells.antt).
-- Assumes nothing.
use mathlib.Core.Path.{◌≡◌, refl, sym, ap, subst, ◌∙◌}
use mathlib.Core.Bool.{Bool, true, false, cond}
use mathlib.Core.List.{List, [], ◌++◌}
use mathlib.Core.Logic.{◌⊎◌, inl, inr}
use Prim.Native.Nat.{ℕ, ◌+◌, ◌-◌, ◌≤◌, ◌<◌}
use native.Mathlib.Omega.{arith}
use lib.Dec.{leb}
use lib.ListN.{length, replicate}
use Rattle.grammar.specs.Numbers.{TREE}
use Rattle.grammar.specs.Trees.{Trees}
use Rattle.grammar.specs.Image.{image}
use Rattle.grammar.specs.Settings.{◌⊑◌, NoPrefixSign}
use Rattle.grammar.specs.Answer.{Limits, Answer, Verdict, refused, verdict, Judged, answer, output, valid_setting, prefix_power, document_01}
use Rattle.grammar.specs.Source.{Bad, Kept, Reads01}
use Rattle.grammar.specs.Spells.{Lexemes, greedily, SpelledWithin, Spelled}
use Rattle.grammar.proofs.Alike.{Alike}
use Rattle.grammar.proofs.SpelledSources.{read_is_spelled, spelled_is_read, one_spelled, too_deep_is_eleven}
use Rattle.grammar.proofs.Whole.{Accepted, Fifth, one_tree}
use Rattle.grammar.proofs.Source.{lexing, reads_once, larger_setting, smaller_setting}
use Rattle.grammar.proofs.Signs.{no_sign_without_8, no_sign_with_8}
use Rattle.reader.specs.Reader.{Reading, refusal, numbers, Reads}
use Rattle.std.specs.Prelude.{Ok, Err}
use Rattle.reader.specs.declared.Unread.TheVariants.{Room}
use Rattle.reader.proofs.AnswerLaws.{same_case, HasTree, derived_judged, accepted_derived, tree-answer, room_answer, fits-answer, fits-output, lacks_answer, refusal-output}
use contract.Lifetimes.{Lfts}
use borrow.Fn.Kinds.{Dens}
use Rattle.reader.proofs.read.Kinds.{ps}
use Rattle.reader.proofs.read.Reads as reads
use Rattle.reader.proofs.read.Statement.{statement}
use Rattle.reader.proofs.read.Met.{met}

-- ── Demand 1: total, and nothing is left in the output but an image ────────────────────────────────

-- Each call of `read` stays in bounds and ends, and what it promises is so.
pub total : {M : Type 1} → statement M
total = met

-- It asks nothing of its caller.
pub asks_nothing : (κs : Lfts 2) (a : Dens κs ps) → reads.Asked κs a
asks_nothing κs a = tt

-- ── What the rules derive is what the lexemes spell ────────────────────────────────────────────────

pub derived_is_spelled : {setting : ℕ} {source : List ℕ} {ts : Trees} → HasTree setting source ts → Spelled document_01 setting source ts
derived_is_spelled d =
    record { known = d.setting; short = d.short; utf8 = d.utf8; kept = d.kept; lexemes = d.lexemes; spelled = read_is_spelled d.lexemes d.reads }

-- The same tree, but for spans, which the forms leave open.
pub spelled_is_derived : {setting : ℕ} {source : List ℕ} {t : Trees} → Spelled document_01 setting source t → (ts : Trees) × HasTree setting source ts × Alike t ts
spelled_is_derived y =
    let z = spelled_is_read y.spelled in
    (z.0, record { kept = y.kept; place = z.1; left = []; setting = y.known; short = y.short; utf8 = y.utf8; lexemes = y.lexemes; reads = z.2 }, z.3)

-- 01's limits, but for the depth.
abbrev within_levels : ℕ → Limits
within_levels n = record { valid = document_01.valid; size = document_01.size; depth = n; prefix = document_01.prefix }

not_eleven : (b : Bool) → ◌≡◌ {A = ℕ} (cond b 0 12) 11 → ⊥
not_eleven true e = omega (arith, e)
not_eleven false e = omega (arith, e)

-- One call: an answer and an output as promised.
module _ (setting : ℕ) (source out : List ℕ) (reading : Reading) (out' : List ℕ) (x : Reads setting source out reading out') where
  -- Whatever the rules find out about a source, `read` answers, and leaves in the output.
  pub answers_found : {v : Verdict} → Judged Bad Kept document_01 setting source v → (numbers reading ≡ answer (length out) v) × (out' ≡ output (length out) v)
  answers_found j = reads_once x (record { found = _; judged = j; answered = refl; written = refl })

  -- After a refusal, which is any number but 0, the output is all zero.
  pub zero_after_refusal : ¬ ((numbers reading).number ≡ TREE) → out' ≡ replicate (length out) 0
  zero_after_refusal n = x.written ∙ refusal-output (length out) x.found (λ e. n (ap (λ (a : Answer). a.number) x.answered ∙ e))

  -- ── Demand 2: a tree exactly for what the rules derive, the only one, and the refusal otherwise ───

  -- A tree that is answered is derived, and the output has its image, with zeros after it.
  pub tree_is_derived : (n : ℕ) → reading ≡ Ok n → (ts : Trees) × HasTree setting source ts × (n ≡ length (image ts)) × (out' ≡ image ts ++ replicate (length out - length (image ts)) 0)
  unfolding numbers
  tree_is_derived n q =
      let p = accepted_derived x (inl (ap (λ (r : Reading). (numbers r).number) q)) in
      let e = tree-answer (length out) p.0 n (sym (ap numbers q) ∙ p.2) in
      (p.0, p.1, e.0, p.3 ∙ fits-output (length out) p.0 e.1)

  -- A tree that is refused for room is derived, and there is no room for it.
  pub room_is_derived : (n : ℕ) → reading ≡ Err (Room n) → (ts : Trees) × HasTree setting source ts × (n ≡ length (image ts)) × (length out < length (image ts))
  unfolding numbers
  room_is_derived n q =
      let p = accepted_derived x (inr (ap (λ (r : Reading). (numbers r).number) q)) in
      let e = room_answer (length out) p.0 n (sym (ap numbers q) ∙ p.2) in
      (p.0, p.1, e.0, e.1)

  -- A tree that is derived is answered, and is refused only for room.
  pub derived_is_tree : (ts : Trees) → HasTree setting source ts → length (image ts) ≤ length out → reading ≡ Ok (length (image ts))
  derived_is_tree ts d h = same_case _ _ ((answers_found (derived_judged d)).0 ∙ fits-answer (length out) ts h)

  pub derived_is_room : (ts : Trees) → HasTree setting source ts → length out < length (image ts) → reading ≡ Err (Room (length (image ts)))
  derived_is_room ts d h = same_case _ _ ((answers_found (derived_judged d)).0 ∙ lacks_answer (length out) ts h)

  -- What the rules refuse is refused as they say.
  pub refused_is_refused : (n a e d : ℕ) → Judged Bad Kept document_01 setting source (refused n a e d) → (numbers reading ≡ refusal n a e d) × (out' ≡ replicate (length out) 0)
  unfolding answer output
  refused_is_refused n a e d j = answers_found j

  -- The same, told without a parser: a tree that is answered is spelled, greedily and within the limits; so is one that is refused for room.
  pub tree_is_spelled : (n : ℕ) → reading ≡ Ok n
      → (ts : Trees) × Spelled document_01 setting source ts × (n ≡ length (image ts)) × (out' ≡ image ts ++ replicate (length out - length (image ts)) 0)
  tree_is_spelled n q = let z = tree_is_derived n q in (z.0, derived_is_spelled z.1, z.2, z.3)

  pub room_is_spelled : (n : ℕ) → reading ≡ Err (Room n) → (ts : Trees) × Spelled document_01 setting source ts × (n ≡ length (image ts)) × (length out < length (image ts))
  room_is_spelled n q = let z = room_is_derived n q in (z.0, derived_is_spelled z.1, z.2, z.3)

  -- And a tree that is spelled so is answered, that one but for spans, and is refused only for room.
  pub spelled_is_tree : (t : Trees) → Spelled document_01 setting source t
      → (ts : Trees) × Alike t ts × (length (image ts) ≤ length out → reading ≡ Ok (length (image ts))) × (length out < length (image ts) → reading ≡ Err (Room (length (image ts))))
  spelled_is_tree t y = let z = spelled_is_derived y in (z.0, z.2, derived_is_tree z.0 z.1, derived_is_room z.0 z.1)

  -- A source that is spelled greedily, within whatever levels, is refused with number 11 exactly when it isn't within 200.
  pub too_deep_is_refused : (n : ℕ) (t : Trees) → Spelled (within_levels n) setting source t → ((u : Trees) → Spelled document_01 setting source u → ⊥)
      → (numbers reading).number ≡ 11
  unfolding verdict answer
  too_deep_is_refused n t y deep =
      let z = too_deep_is_eleven y.lexemes y.spelled (λ u g. deep u (record { known = y.known; short = y.short; utf8 = y.utf8; kept = y.kept; lexemes = y.lexemes; spelled = g })) in
      ap (λ (a : Answer). a.number) (answers_found (Judged.read y.known y.short y.utf8 y.lexemes z.3)).0

  pub eleven_is_too_deep : (numbers reading).number ≡ 11 → (t : Trees) → Spelled document_01 setting source t → ⊥
  unfolding answer
  eleven_is_too_deep e t y =
      let z = spelled_is_derived y in
      not_eleven (leb (length (image z.0)) (length out)) (sym (ap (λ (a : Answer). a.number) (answers_found (derived_judged z.1)).0) ∙ e)

  -- No second answer and no second output meet the contract, whatever the output held.
  pub no_second : (out₁ : List ℕ) (reading₁ : Reading) (out₁' : List ℕ) → length out₁ ≡ length out → Reads setting source out₁ reading₁ out₁' → (reading ≡ reading₁) × (out' ≡ out₁')
  no_second out₁ reading₁ out₁' l y =
      let z = reads_once x (subst (λ (room : ℕ). Reads01 setting source room (numbers reading₁) out₁') l y) in (same_case _ _ z.0, z.1)

-- One tree at most is spelled, but for spans.
pub one_tree_spelled : {setting : ℕ} {source : List ℕ} {t u : Trees} → Spelled document_01 setting source t → Spelled document_01 setting source u → Alike t u
one_tree_spelled {setting} {source} {t} {u} x y = by x.kept y.kept (lexing.one_kept x.lexemes y.lexemes) x.spelled y.spelled
  where
    by : (xs ys : Lexemes) → xs ≡ ys → SpelledWithin (prefix_power setting) setting (greedily setting) 200 xs t → SpelledWithin (prefix_power setting) setting (greedily setting) 200 ys u → Alike t u
    by xs ys e g h = one_spelled (subst (λ (zs : Lexemes). SpelledWithin (prefix_power setting) setting (greedily setting) 200 zs t) e g) h

-- One tree at most is derived.
pub one_derived : {setting : ℕ} {source : List ℕ} {ts us : Trees} → HasTree setting source ts → HasTree setting source us → ts ≡ us
one_derived d d' = one_tree lexing document_01 (derived_judged d) (derived_judged d')

-- ── Demand 3: a larger setting ────────────────────────────────────────────────────────────────────

-- Two calls on one source and outputs of one length, the second with every switch of the first, and both with 8 or both without.
module _ (s s' : ℕ) (le : s ⊑ s') (source out : List ℕ) (r r' : Reading) (o o' : List ℕ) (x : Reads s source out r o) (x' : Reads s' source out r' o') where
  -- It changes no tree and no refusal for room.
  pub larger : valid_setting s' ≡ true → Accepted (numbers r) → (r' ≡ r) × (o' ≡ o)
  larger h t = let z = larger_setting s s' le source (length out) x x' h t in (same_case _ _ z.0, z.1)

  -- Where it has a tree, the smaller setting has the same, or refuses with number 5 at the first place that the larger reads by a switch
  -- that the smaller lacks (`Fifth`, crates/grammar/proofs/Whole.antt).
  pub smaller : valid_setting s ≡ true → Accepted (numbers r') → ((r ≡ r') × (o ≡ o')) ⊎ Fifth lexing document_01 s s' le source (length out) x x'
  smaller h t = by (smaller_setting s s' le source (length out) x x' h t)
    where
      by : ((numbers r ≡ numbers r') × (o ≡ o')) ⊎ Fifth lexing document_01 s s' le source (length out) x x' → ((r ≡ r') × (o ≡ o')) ⊎ Fifth lexing document_01 s s' le source (length out) x x'
      by (inl z) = inl (same_case _ _ z.0, z.1)
      by (inr z) = inr z

-- ── The published binding of signs ────────────────────────────────────────────────────────────────

-- Two calls on one source and outputs of one length, the second with 8 added. What a sign's operand is under 8: `sign_operand`,
-- crates/grammar/proofs/Signs.antt.
module _ (s : ℕ) (small : s ≤ 7) (source out : List ℕ) (r r' : Reading) (o o' : List ℕ) (x : Reads s source out r o) (x' : Reads (s + 8) source out r' o') where
  -- A source with no prefix sign, in the one reading or in the other, reads alike: answer and output.
  pub no_sign_alike : NoPrefixSign x.judged ⊎ NoPrefixSign x'.judged → (r ≡ r') × (o ≡ o')
  no_sign_alike (inl u) = let z = no_sign_without_8 s small x x' u in (same_case _ _ (sym z.0), sym z.1)
  no_sign_alike (inr u) = let z = no_sign_with_8 s small x x' u in (same_case _ _ z.0, z.1)

-- The whole walk: what each way out of it, from the header line on, says of the block and of its text.
-- Assumes nothing.
use mathlib.Core.Path.{◌≡◌, sym, ◌∙◌, ap, subst}
use mathlib.Core.List.{List, [], ◌∷◌}
use Prim.Native.Nat.{ℕ, ◌+◌, ◌≤◌, ◌<◌}
use native.Mathlib.Omega.{arith}
use lib.Dec.{ltb}
use lib.ListN.{length, get_or, drop, length-drop, drop_of_length-le}
use lib.Seq.{slice, slice_empty}
use Rattle.strings.specs.Decoding.{Decoding, Missing}
use Rattle.std.specs.Prelude.{Result, Ok, Err}
use Rattle.blocks.specs.declared.BlockError.{BlockError}
use Rattle.blocks.specs.declared.BlockFault.TheVariants.{UnexpectedEnd, MissingNewLine, MissingIndent}
use Rattle.blocks.specs.declared.Good.{Good}
use Rattle.blocks.specs.Blocks.{Run, unexpected_end, LineFeed, HeaderBlank, Blank, Dash, Header, header, Indent, first, no_indent, Stands, no_line, no_new_line, after_header, BlockText, means, ends, fault_at, BlockAt, a_good, an_unexpected_end, a_missing_new_line, a_missing_indent, a_missing_termination}
use Rattle.blocks.specs.Inside.{Spans, Dashed, SoughtTo, BodyAt, Walked, a_text, no_text}
use Rattle.strings.proofs.Stores.{drop-next}
use Rattle.blocks.proofs.Laws.{text_is_good}

module _ {s : List ℕ} {at : ℕ} where
  -- a fault has no text
  bad : {out : List ℕ} {b : BlockError} {out₁ : List ℕ} → BlockAt s at (Err b) → Walked s at out (Err b) out₁
  bad d = no_text d (λ t m. let (e, q) = text_is_good m d in cc)

  pub walked_past : {out out₁ : List ℕ} → length s ≤ at → Walked s at out (Err (fault_at UnexpectedEnd (length s))) out₁
  walked_past h =
      let nothing : drop at s ≡ [] = drop_of_length-le s {i = at} h in
      bad (an_unexpected_end (ends {r = []} (subst (λ (t : List ℕ). Stands t unexpected_end []) (sym nothing) (no_line (header Dash.end Run.end))) (omega arith)))

  module _ {open' lf : ℕ} (dash : Dashed s at open') (blanks : Spans HeaderBlank s open' lf) where
    head_line : Header (drop at s) (ltb at open') (drop lf s)
    head_line = header dash.dash blanks.run

    pub walked_no_line : {out out₁ : List ℕ} → lf ≡ length s → Walked s at out (Err (fault_at UnexpectedEnd lf)) out₁
    walked_no_line h =
        let nothing : drop lf s ≡ [] = drop_of_length-le s {i = lf} (omega arith) in
        bad (an_unexpected_end (ends (no_line (subst (λ (t : List ℕ). Header (drop at s) (ltb at open') t) nothing head_line)) (omega arith)))

    module _ (inside : lf < length s) where
      head_then : Header (drop at s) (ltb at open') (get_or s lf 0 ∷ drop (lf + 1) s)
      head_then = subst (λ (t : List ℕ). Header (drop at s) (ltb at open') t) (drop-next s lf inside) head_line

      pub walked_no_new_line :
          {j : ℕ} {out out₁ : List ℕ} → (get_or s lf 0 ≡ 0x0A → ⊥) → SoughtTo s (lf + 1) j → Walked s at out (Err (fault_at MissingNewLine j)) out₁
      walked_no_new_line {j} h k =
          bad (a_missing_new_line (ends (no_new_line head_then h k.sought) (omega (arith, k.within, length-drop j s))))

      module _ (feed : get_or s lf 0 ≡ 0x0A) where
        head_feed : Header (drop at s) (ltb at open') (0x0A ∷ drop (lf + 1) s)
        head_feed = subst (λ (b : ℕ). Header (drop at s) (ltb at open') (b ∷ drop (lf + 1) s)) feed head_then

        pub walked_no_indent :
            {a e j : ℕ} {out out₁ : List ℕ} → Spans LineFeed s (lf + 1) a → Spans Blank s a e → e ≡ a → SoughtTo s a j →
            Walked s at out (Err (fault_at MissingIndent j)) out₁
        walked_no_indent {a} {e} {j} empty blank same k =
            let none : slice a e s ≡ [] = ap (λ (x : ℕ). slice a x s) same ∙ slice_empty a s in
            let unindented : Indent (drop (lf + 1) s) (drop a s) [] = subst (λ (i : List ℕ). Indent (drop (lf + 1) s) (drop a s) i) none (first empty.run blank.run) in
            bad (a_missing_indent (ends (after_header head_feed (no_indent unindented k.sought)) (omega (arith, k.within, length-drop j s))))

        pub walked_body : {out : List ℕ} {r : Result Good BlockError} {out₁ : List ℕ} → BodyAt s (lf + 1) (ltb at open') out r out₁ → Walked s at out r out₁
        walked_body (BodyAt.a_good d e) = a_text (a_good (ends (after_header head_feed d) e)) (means head_feed d)
        walked_body (BodyAt.an_unexpected_end d e) = bad (an_unexpected_end (ends (after_header head_feed d) (omega arith)))
        walked_body (BodyAt.a_missing_termination d e) = bad (a_missing_termination (ends (after_header head_feed d) e))

  pub walked_good :
      {out : List ℕ} {g : Good} {out₁ : List ℕ} → Walked s at out (Ok g) out₁ → Decoding (BlockText (drop at s)) (Missing (BlockText (drop at s))) out (Ok g.text) out₁
  walked_good (a_text d m) = Decoding.text m

  pub walked_bad : {out : List ℕ} {b : BlockError} {out₁ : List ℕ} → Walked s at out (Err b) out₁ → (t : List ℕ) → BlockText (drop at s) t → ⊥
  walked_bad (no_text d h) = h

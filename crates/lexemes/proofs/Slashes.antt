-- Comments: the tables of rules on the way through one, and how far a scan has come.
-- Assumes nothing.
use mathlib.Core.Path.{◌≡◌, refl, sym, subst, ◌∙◌}
use mathlib.Core.Bool.{Bool, true, false, true≢false}
use mathlib.Core.List.{List, [], ◌∷◌, ◌++◌}
use mathlib.Core.Logic.{◌⊎◌, inl, inr, ⊎_elim}
use Prim.Native.Nat.{ℕ, ◌+◌, ◌≤◌, ◌<◌}
use native.Mathlib.Omega.{arith}
use lib.Dec.{T, eqb}
use lib.ListN.{length, get_or}
use Rattle.std.proofs.Common.{Some}
use Rattle.regexes.specs.Regex.{END, Rule, ◌⇒◌, ◌·◌, ◌∣◌, star, Takes}
use Rattle.regexes.proofs.Tables.{left, steps, steps_eq, gives, silent, takes_forth, append_from}
use Rattle.regexes.proofs.Longest.{empty, join_left, join_right, join_none}
use Rattle.lexemes.specs.Kinds.{DIV, SINGLE_LINE_SLASH_COMMENT, SINGLE_LINE_HASH_COMMENT, MULTI_LINE_COMMENT, ERROR_COMMENT_TOO_SHORT, ERROR_COMMENT_UNTERMINATED}
use Rattle.lexemes.specs.Letters.{text, letter, next}
use Rattle.lexemes.specs.Rules.{rules, chr, no_star_slash, no_slash}
use Rattle.lexemes.specs.Lexeme.{Beats, Ruled, longest}
use Rattle.lexemes.specs.Scan.{Best, Never, in_line, LineEnd, in_comment, unclosed, Closing, Opening}
use Rattle.lexemes.proofs.Letters.{up, sound}
use Rattle.lexemes.proofs.Moves.{is, is_to, plain, Sees, other, not_in, NotAll, byte, char, none, end, go, stop, stop_before, fail_before, never}
use Rattle.lexemes.proofs.Quotes.{done, ended}

-- A line comment, in it and after a CR in it.
abbrev after_cr : ℕ → List Rule
after_cr k = (k ⇒ is 10) ∷ []

pub record LineFacts (k : ℕ) : Type 0 where
  pub goes : T (steps (in_line k) (other (10 ∷ 13 ∷ [])) (in_line k))
  pub lf : T (steps (in_line k) (eqb 10) (done k))
  pub cr : T (steps (in_line k) (eqb 13) (after_cr k))
  pub crlf : T (steps (after_cr k) (eqb 10) (done k))
  pub cr_none : T (steps (after_cr k) (not_in (10 ∷ [])) [])
  pub ends : T (steps (in_line k) (eqb END) [])
  pub gives_in : T (gives (in_line k) k)
  pub silent_cr : T (silent (after_cr k))

slash_line : LineFacts SINGLE_LINE_SLASH_COMMENT
unfolding steps gives silent
slash_line = record { goes = tt; lf = tt; cr = tt; crlf = tt; cr_none = tt; ends = tt; gives_in = tt; silent_cr = tt }

hash_line : LineFacts SINGLE_LINE_HASH_COMMENT
unfolding steps gives silent
hash_line = record { goes = tt; lf = tt; cr = tt; crlf = tt; cr_none = tt; ends = tt; gives_in = tt; silent_cr = tt }

-- A longest match in the line comment from i on is one from f on, for either kind.
pub record InLine (s : List ℕ) (f i : ℕ) : Type 0 where
  pub on : {k e : ℕ} → LineFacts k → Best s (in_line k) i k e → Best s (in_line k) f k e

module _ {s : List ℕ} {f : ℕ} where
  pub line-start : InLine s f f
  line-start = record { on = λ F l. l }

  module _ {i : ℕ} (m : InLine s f i) where
    line : (r : ℕ) → ((k : ℕ) → LineFacts k → Best s (in_line k) i k r) → LineEnd s f r
    line r l =
        record { slash = m.on slash_line (l SINGLE_LINE_SLASH_COMMENT slash_line); hash = m.on hash_line (l SINGLE_LINE_HASH_COMMENT hash_line) }

    pub line_on : {j : ℕ} → i < length s → NotAll (10 ∷ 13 ∷ []) (get_or s i 0) → j ≡ next s i → InLine s f j
    line_on h n q =
        record { on = λ {k} {e} F l. m.on F (go (char s i (10 ∷ 13 ∷ []) tt h n) (subst (λ (x : ℕ). Best s (in_line k) x k e) q l) F.goes) }

    pub line_lf : get_or s i 0 ≡ 10 → LineEnd s f (i + 1)
    line_lf h = line (i + 1) (λ k F. go (byte s i 10 tt h) (ended s k (i + 1)) F.lf)

    pub line_crlf : get_or s i 0 ≡ 13 → get_or s (i + 1) 0 ≡ 10 → LineEnd s f (i + 2)
    line_crlf h g =
        line (i + 2) (λ k F. go (byte s i 13 tt h) (go (byte s (i + 1) 10 tt g) (subst (λ (x : ℕ). Best s (done k) x k (i + 2)) (omega arith) (ended s k (i + 2))) F.crlf) F.cr)

    -- "A line comment stops at CR"
    pub line_cr : get_or s i 0 ≡ 13 → (get_or s (i + 1) 0 ≡ 10 → ⊥) → LineEnd s f i
    line_cr h n =
        line i (λ k F. stop_before (byte s i 13 tt h) (never (none s (i + 1) (10 ∷ []) tt (n, tt)) F.cr_none F.silent_cr) F.cr F.gives_in)

    pub line_end : length s ≤ i → LineEnd s f i
    line_end h = line i (λ k F. stop (end s i h) F.ends F.gives_in)

-- A comment that may close: not after a star, and after one.
abbrev pub comment : Bool → List Rule
comment false = in_comment
comment true = left 42 in_comment

star_on : (b : Bool) → T (steps (comment b) (eqb 42) (comment true))
unfolding steps
star_on true = tt
star_on false = tt

other_on : (b : Bool) → T (steps (comment b) (other (42 ∷ 47 ∷ [])) (comment false))
unfolding steps
other_on true = tt
other_on false = tt

slash_on : T (steps (comment false) (eqb 47) (comment false))
unfolding steps
slash_on = tt

slash_off : T (steps (comment true) (eqb 47) (done MULTI_LINE_COMMENT))
unfolding steps
slash_off = tt

end_off : (b : Bool) → T (steps (comment b) (eqb END) [])
unfolding steps
end_off true = tt
end_off false = tt

silent_in : (b : Bool) → T (silent (comment b))
unfolding silent left
silent_in true = tt
silent_in false = tt

-- A comment with no closing: at its start, after a whole part of it, after a star, and not in it any more.
pub data Part : Type 0 where
  start whole starred off : Part

abbrev pub part : Part → List Rule
part start = unclosed
part whole = (ERROR_COMMENT_UNTERMINATED ⇒ star (no_star_slash ∣ chr "*" · no_slash)) ∷ []
part starred = (ERROR_COMMENT_UNTERMINATED ⇒ no_slash · star (no_star_slash ∣ chr "*" · no_slash)) ∷ []
part off = []

abbrev after_star : Part → Part
after_star start = starred
after_star whole = starred
after_star starred = whole
after_star off = off

abbrev after_other : Part → Part
after_other start = whole
after_other whole = whole
after_other starred = whole
after_other off = off

part_star : (u : Part) → T (steps (part u) (eqb 42) (part (after_star u)))
unfolding steps
part_star start = tt
part_star whole = tt
part_star starred = tt
part_star off = tt

part_other : (u : Part) → T (steps (part u) (other (42 ∷ 47 ∷ [])) (part (after_other u)))
unfolding steps
part_other start = tt
part_other whole = tt
part_other starred = tt
part_other off = tt

part_slash : (u : Part) → T (steps (part u) (eqb 47) [])
unfolding steps
part_slash start = tt
part_slash whole = tt
part_slash starred = tt
part_slash off = tt

part_any : T (steps (part starred) (other (47 ∷ [])) (part whole))
unfolding steps
part_any = tt

part_end : (u : Part) → T (steps (part u) (eqb END) [])
unfolding steps
part_end start = tt
part_end whole = tt
part_end starred = tt
part_end off = tt

silent_start : T (silent (part start))
unfolding silent
silent_start = tt

silent_star : T (silent (part starred))
unfolding silent
silent_star = tt

gives_whole : T (gives (part whole) ERROR_COMMENT_UNTERMINATED)
unfolding gives
gives_whole = tt

-- What a comment with no closing takes from f on ends before i, or goes on from there.
pub record Far (s : List ℕ) (f i : ℕ) : Type 0 where
  pub far : (k e : ℕ) → Takes (text s) unclosed k f e → (e ≤ i) ⊎ ((u : Part) × Takes (text s) (part u) k i e)

module _ {s : List ℕ} {f i j : ℕ} {t : ℕ → Bool} (x : Sees s i t j) (m : Far s f i) where
  far_on : (g : Part → Part) → ((u : Part) → T (steps (part u) t (part (g u)))) → Far s f j
  far_on g q =
      record {
        far = λ k e w.
            ⊎_elim (λ z. inl (omega (arith, z, up s i, x.after)))
            (λ z. ⊎_elim (λ y. inl (omega (arith, y.0, up s i, x.after)))
            (λ y. inr (
              g z.0,
              subst (λ (p : ℕ). Takes (text s) (part (g z.0)) k p e) (sym x.after)
                  (subst (λ (S : List Rule). Takes (text s) S k (next s i) e) (steps_eq (part z.0) t (part (g z.0)) (q z.0) (letter s i) ((sound s).low i) x.passes) y),
            ))
            (takes_forth (text s) (part z.0) k i e z.1))
            (m.far k e w);
      }

  far_off : ((u : Part) → T (steps (part u) t [])) → (k e : ℕ) → Takes (text s) unclosed k f e → e ≤ i
  far_off q k e w =
      ⊎_elim (λ z. z)
      (λ z. ⊎_elim (λ y. omega (arith, y.0))
      (λ y. absurd ((empty (text s) (sound s) (next s i)).none_takes k e
      (subst (λ (S : List Rule). Takes (text s) S k (next s i) e) (steps_eq (part z.0) t [] (q z.0) (letter s i) ((sound s).low i) x.passes) y)))
      (takes_forth (text s) (part z.0) k i e z.1))
      (m.far k e w)

-- How far the search for the closing has come; the flag: a star stands before.
pub record Seeking (s : List ℕ) (f i : ℕ) (b : Bool) : Type 0 where
  pub from : f ≤ i
  pub on : {k e : ℕ} → Best s (comment b) i k e → Best s in_comment f k e
  pub nothing : Never s (comment b) i → Never s in_comment f
  pub far : Far s f i
  pub past : b ≡ true → f < i

module _ {s : List ℕ} {f : ℕ} where
  pub seek_start : Seeking s f f false
  seek_start =
      record { from = omega arith; on = λ l. l; nothing = λ n. n; far = record { far = λ k e m. inr (start, m) }; past = λ e. absurd (true≢false (sym e)) }

  module _ {i : ℕ} {b : Bool} (m : Seeking s f i b) where
    seek_on : {j : ℕ} {t : ℕ → Bool} (b' : Bool) → Sees s i t j → T (steps (comment b) t (comment b')) → (g : Part → Part)
        → ((u : Part) → T (steps (part u) t (part (g u)))) → Seeking s f j b'
    seek_on b' x t g q =
        record {
          from = omega (arith, m.from, up s i, x.after);
          on = λ l. m.on (go x l t);
          nothing = λ n. m.nothing (fail_before x n t (silent_in b));
          far = far_on x m.far g q;
          past = λ e. omega (arith, m.from, up s i, x.after);
        }

    pub seek_star : {j : ℕ} → get_or s i 0 ≡ 42 → j ≡ next s i → Seeking s f j true
    seek_star h e = let x = byte s i 42 tt h in subst (λ (y : ℕ). Seeking s f y true) (x.after ∙ sym e) (seek_on true x (star_on b) after_star part_star)

    pub seek_other : {j : ℕ} → i < length s → NotAll (42 ∷ 47 ∷ []) (get_or s i 0) → j ≡ next s i → Seeking s f j false
    seek_other l n e =
        subst (λ (x : ℕ). Seeking s f x false) (sym e) (seek_on false (char s i (42 ∷ 47 ∷ []) tt l n) (other_on b) after_other part_other)

    pub seek_end : length s ≤ i → Never s in_comment f
    seek_end h = m.nothing (never (end s i h) (end_off b) (silent_in b))

  pub seek_slash : {i j : ℕ} {b : Bool} → Seeking s f i b → b ≡ false → get_or s i 0 ≡ 47 → j ≡ next s i → Seeking s f j false
  seek_slash {i} m e h q =
      let x = byte s i 47 tt h in
      subst (λ (y : ℕ). Seeking s f y false) (x.after ∙ sym q) (seek_on (subst (λ (y : Bool). Seeking s f i y) e m) false x slash_on (λ u. off) part_slash)

  pub seek_closed : {i : ℕ} {b : Bool} → Seeking s f i b → b ≡ true → get_or s i 0 ≡ 47 → Closing s f (Some (i + 1))
  seek_closed {i} {b} m e h =
      let n = subst (λ (x : Bool). Seeking s f i x) e m in (
        n.on (go (byte s i 47 tt h) (ended s MULTI_LINE_COMMENT (i + 1)) slash_off),
        omega (arith, n.past refl),
        λ k e' w. omega (arith, far_off (byte s i 47 tt h) n.far part_slash k e' w),
      )

-- How far a comment with no closing has come.
pub record Unclosed (s : List ℕ) (f i : ℕ) : Type 0 where
  pub on : (i ≡ f) ⊎ ((f < i) × ((k e : ℕ) → Best s (part whole) i k e → Best s unclosed f k e))

module _ {s : List ℕ} {f : ℕ} where
  pub open_start : Unclosed s f f
  open_start = record { on = inl refl }

  module _ {i : ℕ} (m : Unclosed s f i) where
    -- On by a table that both a start and a whole part lead to.
    unit : {S : List Rule} {j k e : ℕ} → (Best s S j k e → Best s (part start) i k e) → (Best s S j k e → Best s (part whole) i k e) → Best s S j k e → Best s unclosed f k e
    unit {S} {j} {k} {e} a b l = ⊎_elim (λ z. subst (λ (x : ℕ). Best s unclosed x k e) z (a l)) (λ z. z.1 k e (b l)) m.on

    from : f ≤ i
    from = ⊎_elim (λ z. omega (arith, z)) (λ z. omega (arith, z.0)) m.on

    pub open_other : {j : ℕ} → i < length s → NotAll (42 ∷ 47 ∷ []) (get_or s i 0) → j ≡ next s i → Unclosed s f j
    open_other {j} l n e =
        let x = char s i (42 ∷ 47 ∷ []) tt l n in
        record {
          on = inr (
            omega (arith, from, up s i),
            λ k e' w. unit (λ z. go x z (part_other start)) (λ z. go x z (part_other whole)) (subst (λ (p : ℕ). Best s (part whole) p k e') e w),
          );
        }

    pub open_star : {j : ℕ} → get_or s i 0 ≡ 42 → i + 1 < length s → (get_or s (i + 1) 0 ≡ 47 → ⊥) → j ≡ next s (i + 1) → Unclosed s f j
    open_star {j} h l n e =
        let x = byte s i 42 tt h in
        record {
          on = inr (
            omega (arith, from, up s (i + 1)),
            λ k e' w. unit (λ z. go x z (part_star start)) (λ z. go x z (part_star whole))
                (go (char s (i + 1) (47 ∷ []) tt l (n, tt)) (subst (λ (p : ℕ). Best s (part whole) p k e') e w) part_any),
          );
        }

    opened : Best s (part whole) i ERROR_COMMENT_UNTERMINATED i → Never s (part start) i → Opening s f i
    opened l n =
        ⊎_elim (λ z. inl (z, subst (λ (x : ℕ). Never s unclosed x) z n)) (λ z. inr (z.0, z.1 ERROR_COMMENT_UNTERMINATED i l)) m.on

    pub open_slash : get_or s i 0 ≡ 47 → Opening s f i
    open_slash h = let x = byte s i 47 tt h in opened (stop x (part_slash whole) gives_whole) (never x (part_slash start) silent_start)

    star_ends : get_or s i 0 ≡ 42 → Never s (part starred) (i + 1) → Opening s f i
    star_ends h n =
        let x = byte s i 42 tt h in
        opened (stop_before x n (part_star whole) gives_whole) (fail_before x n (part_star start) silent_start)

    pub open_star_last : get_or s i 0 ≡ 42 → length s ≤ i + 1 → Opening s f i
    open_star_last h l = star_ends h (never (end s (i + 1) l) (part_end starred) silent_star)

    pub open_star_slash : get_or s i 0 ≡ 42 → get_or s (i + 1) 0 ≡ 47 → Opening s f i
    open_star_slash h g = star_ends h (never (byte s (i + 1) 47 tt g) (part_slash starred) silent_star)

    pub open_end : length s ≤ i → Opening s f i
    open_end h = let x = end s i h in opened (stop x (part_end whole) gives_whole) (never x (part_end start) silent_start)

-- After `/*`: a whole comment, a `/` that makes it too short, one with no closing.
abbrev too_short : List Rule
too_short = (ERROR_COMMENT_TOO_SHORT ⇒ is 47) ∷ []

abbrev after_opening : List Rule
after_opening = in_comment ++ too_short ++ unclosed

slash_first : T (steps rules (eqb 47) (left 47 rules))
unfolding steps rules
slash_first = tt

slash_second : T (steps (left 47 rules) (eqb 47) (in_line SINGLE_LINE_SLASH_COMMENT))
unfolding steps rules
slash_second = tt

star_second : T (steps (left 47 rules) (eqb 42) after_opening)
unfolding steps rules
star_second = tt

slash_alone : T (steps (left 47 rules) (not_in (47 ∷ 42 ∷ [])) [])
unfolding steps rules
slash_alone = tt

slash_gives : T (gives (left 47 rules) DIV)
unfolding gives left rules
slash_gives = tt

hash_first : T (steps rules (eqb 35) (in_line SINGLE_LINE_HASH_COMMENT))
unfolding steps rules
hash_first = tt

short_slash : T (steps too_short (eqb 47) (done ERROR_COMMENT_TOO_SHORT))
unfolding steps
short_slash = tt

short_none : T (steps too_short (not_in (47 ∷ [])) [])
unfolding steps
short_none = tt

silent_short : T (silent too_short)
unfolding silent
silent_short = tt

module _ (s : List ℕ) (at : ℕ) where
  pub hash_scanned : {r : ℕ} → get_or s at 0 ≡ 35 → LineEnd s (at + 1) r → Ruled s at SINGLE_LINE_HASH_COMMENT r
  hash_scanned h l = longest (go (byte s at 35 tt h) l.hash hash_first)

  module _ (h : get_or s at 0 ≡ 47) where
    second : {S : List Rule} {k e : ℕ} (b : ℕ) → T (plain b) → get_or s (at + 1) 0 ≡ b → Best s S (at + 2) k e → T (steps (left 47 rules) (eqb b) S) → Ruled s at k e
    second {S} {k} {e} b p g l t =
        longest (go (byte s at 47 tt h) (go (byte s (at + 1) b p g) (subst (λ (p : ℕ). Best s S p k e) (omega arith) l) t) slash_first)

    pub div_scanned : (get_or s (at + 1) 0 ≡ 47 → ⊥) → (get_or s (at + 1) 0 ≡ 42 → ⊥) → Ruled s at DIV (at + 1)
    div_scanned n m = longest (go (byte s at 47 tt h) (stop (none s (at + 1) (47 ∷ 42 ∷ []) tt (n, (m, tt))) slash_alone slash_gives) slash_first)

    pub line_scanned : {r : ℕ} → get_or s (at + 1) 0 ≡ 47 → LineEnd s (at + 2) r → Ruled s at SINGLE_LINE_SLASH_COMMENT r
    line_scanned g l = second 47 tt g l.slash slash_second

    module _ (g : get_or s (at + 1) 0 ≡ 42) where
      three : {k e : ℕ} → Best s after_opening (at + 2) k e → Ruled s at k e
      three l = second 42 tt g l star_second

      pub closed_scanned : {r : ℕ} → Closing s (at + 2) (Some r) → Ruled s at MULTI_LINE_COMMENT r
      unfolding Takes
      closed_scanned {r} w =
          three
          (join_left (text s) (sound s) Beats in_comment (too_short ++ unclosed) (at + 2) MULTI_LINE_COMMENT r w.0
          (λ k e t. ⊎_elim (λ x. omega (arith, short_end k e x, w.1)) (λ x. w.2 k e x) (append_from (text s) too_short unclosed k (at + 2) e t)))
        where
          short_end : (k e : ℕ) → Takes (text s) too_short k (at + 2) e → e ≤ at + 2 + 1
          short_end k e (inl m) = omega (arith, (is_to s (at + 2) 47 e tt m.1).1)
          short_end k e (inr m) = absurd m

      module _ (n : Never s in_comment (at + 2)) where
        -- A `/` is no part of a comment with no closing.
        no_slash_lem : get_or s (at + 2) 0 ≡ 47 → Never s unclosed (at + 2)
        no_slash_lem e = never (byte s (at + 2) 47 tt e) (part_slash start) silent_start

        not_short : (get_or s (at + 2) 0 ≡ 47 → ⊥) → Never s too_short (at + 2)
        not_short e = never (none s (at + 2) (47 ∷ []) tt (e, tt)) short_none silent_short

        pub open_scanned : {r : ℕ} → at + 2 < r → Opening s (at + 2) r → Ruled s at ERROR_COMMENT_UNTERMINATED r
        open_scanned l (inl w) = absurd (omega (arith, w.0))
        open_scanned {r} l (inr w) =
            three
            (join_right (text s) (sound s) Beats in_comment (too_short ++ unclosed) (at + 2) ERROR_COMMENT_UNTERMINATED r n
            (join_right (text s) (sound s) Beats too_short unclosed (at + 2) ERROR_COMMENT_UNTERMINATED r
            (not_short (λ e. (no_slash_lem e).none_takes ERROR_COMMENT_UNTERMINATED r w.1.takes)) w.1))

        pub short_scanned : get_or s (at + 2) 0 ≡ 47 → Ruled s at ERROR_COMMENT_TOO_SHORT (at + 3)
        short_scanned e =
            three
            (join_right (text s) (sound s) Beats in_comment (too_short ++ unclosed) (at + 2) ERROR_COMMENT_TOO_SHORT (at + 3) n
            (join_left (text s) (sound s) Beats too_short unclosed (at + 2) ERROR_COMMENT_TOO_SHORT (at + 3)
            (go (byte s (at + 2) 47 tt e) (subst (λ (x : ℕ). Best s (done ERROR_COMMENT_TOO_SHORT) x ERROR_COMMENT_TOO_SHORT (at + 3)) (omega arith) (ended s ERROR_COMMENT_TOO_SHORT (at + 3))) short_slash)
            (λ k e' t. absurd ((no_slash_lem e).none_takes k e' t))))

        no_open : {r : ℕ} → r ≤ at + 2 → Opening s (at + 2) r → Never s unclosed (at + 2)
        no_open l (inl w) = w.1
        no_open l (inr w) = absurd (omega (arith, w.0))

        pub div_star : {r : ℕ} → r ≤ at + 2 → Opening s (at + 2) r → (get_or s (at + 2) 0 ≡ 47 → ⊥) → Ruled s at DIV (at + 1)
        div_star l o m =
            longest
            (go (byte s at 47 tt h)
            (stop_before (byte s (at + 1) 42 tt g)
            (subst (λ (x : ℕ). Never s after_opening x) (omega arith)
            (join_none (text s) (sound s) in_comment (too_short ++ unclosed) (at + 2) n (join_none (text s) (sound s) too_short unclosed (at + 2) (not_short m) (no_open l o))))
            star_second slash_gives)
            slash_first)

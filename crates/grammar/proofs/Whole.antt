-- The whole answer is unique, there always is one, and demand 3 is true of it.
-- Assumes nothing.
use mathlib.Core.Path.{◌≡◌, refl, sym, ap, subst, subst⁻¹, ◌∙◌}
use mathlib.Core.Bool.{Bool, true, false, cond}
use mathlib.Core.List.{List}
use mathlib.Core.Logic.{◌⊎◌, inl, inr}
use mathlib.Core.Option.{some}
use Prim.Native.Nat.{ℕ, ◌≤◌, ◌<◌}
use native.Mathlib.Omega.{arith}
use native.Mathlib.Decide.{dec_le}
use lib.Dec.{T, leb}
use lib.ListN.{length, replicate}
use Rattle.strings.specs.Utf8.{Utf8, ValidTo}
use Rattle.strings.proofs.CharacterLaws.{valid_whole, valid_all, valid_to_once}
use Rattle.grammar.specs.Numbers.{TREE, ENCODING, WANTED, ROOM, fits}
use Rattle.grammar.specs.Trees.{Trees}
use Rattle.grammar.specs.Image.{image}
use Rattle.grammar.specs.Lexemes.{Lexeme, start_of, stop_of}
use Rattle.grammar.specs.Reading.{Outcome, done, broken, Reads}
use Rattle.grammar.specs.Settings.{◌⊑◌, at, first}
use Rattle.grammar.specs.Answer.{Limits, Answer, Verdict, refused, tree, verdict, Judged, bad_setting, too_long, not_utf8, bad_lexeme, read, answer, output, Answers}
use Rattle.grammar.proofs.Once.{once}
use Rattle.grammar.proofs.Ends.{ends}
use Rattle.grammar.proofs.Demand3.{same_tree, demand_3}
use Rattle.grammar.proofs.Chosen.{true_false}
use Rattle.grammar.proofs.NumberLaws.{refusal, met_no_tree, met_no_room, met_fits, point_fits}

-- What the layers below owe: how far a source is UTF-8, and that it has one first bad lexeme or else one list of kept ones.
pub record Lexing (Bad : List ℕ → ℕ → ℕ → ℕ → Type 0) (Kept : List ℕ → List Lexeme → Type 0) : Type 0 where
  pub valid : (source : List ℕ) → (n : ℕ) × ValidTo source n
  pub lexed : (source : List ℕ) → Utf8 source → ((k : ℕ) × (a : ℕ) × (e : ℕ) × Bad source k a e) ⊎ ((xs : List Lexeme) × Kept source xs)
  pub one_bad : {source : List ℕ} {k a e k' a' e' : ℕ} → Bad source k a e → Bad source k' a' e' → (k ≡ k') × (a ≡ a') × (e ≡ e')
  pub one_kept : {source : List ℕ} {xs ys : List Lexeme} → Kept source xs → Kept source ys → xs ≡ ys
  pub not_both : {source : List ℕ} {k a e : ℕ} {xs : List Lexeme} → Bad source k a e → Kept source xs → ⊥

-- A setting is valid or not.
known_or_not : {b : Bool} {A : Type 0} → b ≡ true → b ≡ false → A
known_or_not t f = absurd (true_false (sym t ∙ f))

-- What is UTF-8 up to its end is UTF-8, and nothing else is.
utf8_all : {source : List ℕ} {n : ℕ} → ValidTo source n → length source ≤ n → Utf8 source
utf8_all x h = valid_whole x (omega (arith, x.within))

pub utf8_cut : {source : List ℕ} {n : ℕ} → ValidTo source n → n < length source → Utf8 source → ⊥
utf8_cut x h u = omega (arith, valid_all u x)

-- The answer says that there is a tree: number 0, or, refused for room, 12.
abbrev pub Accepted : Answer → Type 0
Accepted a = (a.number ≡ TREE) ⊎ (a.number ≡ ROOM)

no_number : (room n a e x : ℕ) → (n ≡ TREE → ⊥) → (n ≡ ROOM → ⊥) → Accepted (answer room (refused n a e x)) → ⊥
unfolding answer
no_number room n a e x h g (inl i) = h i
no_number room n a e x h g (inr i) = g i

module _ {Bad : List ℕ → ℕ → ℕ → ℕ → Type 0} {Kept : List ℕ → List Lexeme → Type 0} (lexing : Lexing Bad Kept) (limits : Limits) where
  judged_once : {s : ℕ} {source : List ℕ} {v w : Verdict} → Judged Bad Kept limits s source v → Judged Bad Kept limits s source w → v ≡ w
  judged_once (bad_setting a) (bad_setting b) = refl
  judged_once (bad_setting a) (too_long b c) = known_or_not b a
  judged_once (bad_setting a) (not_utf8 b c d e) = known_or_not b a
  judged_once (bad_setting a) (bad_lexeme b c d e) = known_or_not b a
  judged_once (bad_setting a) (read b c d e f) = known_or_not b a
  judged_once (too_long a b) (bad_setting c) = known_or_not a c
  judged_once (too_long a b) (too_long c d) = refl
  judged_once (too_long a b) (not_utf8 c d e f) = absurd (omega arith)
  judged_once (too_long a b) (bad_lexeme c d e f) = absurd (omega arith)
  judged_once (too_long a b) (read c d e f g) = absurd (omega arith)
  judged_once (not_utf8 a b c d) (bad_setting e) = known_or_not a e
  judged_once (not_utf8 a b c d) (too_long e f) = absurd (omega arith)
  judged_once (not_utf8 a b c d) (not_utf8 e f g h) = ap (λ (n : ℕ). refused ENCODING n n 0) (valid_to_once c g)
  judged_once (not_utf8 a b c d) (bad_lexeme e f g h) = absurd (utf8_cut c d g)
  judged_once (not_utf8 a b c d) (read e f g h i) = absurd (utf8_cut c d g)
  judged_once (bad_lexeme a b c d) (bad_setting e) = known_or_not a e
  judged_once (bad_lexeme a b c d) (too_long e f) = absurd (omega arith)
  judged_once (bad_lexeme a b c d) (not_utf8 e f g h) = absurd (utf8_cut g h c)
  judged_once (bad_lexeme a b c d) (bad_lexeme e f g h) =
      let same = lexing.one_bad d h in
      let same_kind = same.0 in
      let same_start = same.1 in
      let same_stop = same.2 in
      cc
  judged_once (bad_lexeme a b c d) (read e f g h i) = absurd (lexing.not_both d h)
  judged_once (read a b c d e) (bad_setting f) = known_or_not a f
  judged_once (read a b c d e) (too_long f g) = absurd (omega arith)
  judged_once (read a b c d e) (not_utf8 f g h i) = absurd (utf8_cut h i c)
  judged_once (read a b c d e) (bad_lexeme f g h i) = absurd (lexing.not_both i d)
  judged_once {s} (read {xs} a b c d e) (read {o = o} f g h i j) =
      ap verdict (once e (subst (λ (zs : List Lexeme). Reads (limits.prefix s) s limits.depth zs o) (sym (lexing.one_kept d i)) j))

  -- NO SECOND ANSWER OR OUTPUT meets the definition.
  pub answers_once : {s : ℕ} {source : List ℕ} {room : ℕ} {a a' : Answer} {out out' : List ℕ} → Answers Bad Kept limits s source room a out → Answers Bad Kept limits s source room a' out'
      → (a ≡ a') × (out ≡ out')
  answers_once {room = room} x y =
      let same = judged_once x.judged y.judged in
      (x.answered ∙ ap (answer room) same ∙ sym y.answered, x.written ∙ ap (output room) same ∙ sym y.written)

  judged_always : (s : ℕ) (source : List ℕ) → (v : Verdict) × Judged Bad Kept limits s source v
  judged_always s source = by_setting (limits.valid s) refl
    where
      by_lexemes : limits.valid s ≡ true → length source ≤ limits.size → Utf8 source → ((k : ℕ) × (a : ℕ) × (e : ℕ) × Bad source k a e) ⊎ ((xs : List Lexeme) × Kept source xs)
          → (v : Verdict) × Judged Bad Kept limits s source v
      by_lexemes a b c (inl d) = (_, bad_lexeme a b c d.3)
      by_lexemes a b c (inr d) = let r = ends (limits.prefix s) s limits.depth d.0 in (_, read a b c d.1 r.1)

      by_utf8 : limits.valid s ≡ true → length source ≤ limits.size → (n : ℕ) → ValidTo source n → Dec (length source ≤ n) → (v : Verdict) × Judged Bad Kept limits s source v
      by_utf8 a b n c (yes h) = by_lexemes a b (utf8_all c h) (lexing.lexed source (utf8_all c h))
      by_utf8 a b n c (no h) = (_, not_utf8 a b c (omega arith))

      by_size : limits.valid s ≡ true → Dec (length source ≤ limits.size) → (v : Verdict) × Judged Bad Kept limits s source v
      by_size a (yes b) = let c = lexing.valid source in by_utf8 a b c.0 c.1 (dec_le (length source) c.0)
      by_size a (no b) = (_, too_long a (omega arith))

      by_setting : (b : Bool) → limits.valid s ≡ b → (v : Verdict) × Judged Bad Kept limits s source v
      by_setting true a = by_size a (dec_le (length source) limits.size)
      by_setting false a = (_, bad_setting a)

  -- THERE IS ALWAYS AN ANSWER.
  pub answers_always : (s : ℕ) (source : List ℕ) (room : ℕ) → (a : Answer) × (out : List ℕ) × Answers Bad Kept limits s source room a out
  answers_always s source room =
      let v = judged_always s source in (answer room v.0, output room v.0, record { found = v.0; judged = v.1; answered = refl; written = refl })

  -- An accepted source has one tree.
  pub one_tree : {s : ℕ} {source : List ℕ} {ts us : Trees} → Judged Bad Kept limits s source (tree ts) → Judged Bad Kept limits s source (tree us) → ts ≡ us
  one_tree x y = let e = judged_once x y in cc

  -- ── The table of numbers ────────────────────────────────────────────────────────────────────────

  abbrev Fits : Answer → Type 0
  Fits a = T (fits a.number a.start a.stop a.detail a.size)

  judged_fits : (room : ℕ) {s : ℕ} {source : List ℕ} {v : Verdict} → Judged Bad Kept limits s source v → Fits (answer room v)
  unfolding verdict answer fits
  judged_fits room (bad_setting a) = tt
  judged_fits room (too_long a b) = tt
  judged_fits room (not_utf8 {n} a b c d) = point_fits n
  judged_fits room (bad_lexeme a b c d) = tt
  judged_fits room {s} (read {xs} {o} a b c d e) = by o e
    where
      tree-fits : (b : Bool) (n : ℕ) → T (fits (cond b TREE ROOM) 0 0 0 n)
      tree-fits true n = tt
      tree-fits false n = tt

      by : (o : Outcome) → Reads (limits.prefix s) s limits.depth xs o → Fits (answer room (verdict o))
      by (done ts p ys) e = tree-fits (leb (length (image ts)) room) (length (image ts))
      by (broken n p ys x) e = met_fits n (start_of p ys) (stop_of p ys) x (refusal (limits.prefix s) s e)

  -- EVERY ANSWER keeps to the table of numbers.
  pub answers_fit : {s : ℕ} {source : List ℕ} {room : ℕ} {a : Answer} {out : List ℕ} → Answers Bad Kept limits s source room a out → Fits a
  answers_fit {room = room} x = subst⁻¹ Fits x.answered (judged_fits room x.judged)

  -- ── Demand 3 ────────────────────────────────────────────────────────────────────────────────────

  -- A source past numbers 1 to 4, with its reading.
  pub record Parsed (s : ℕ) (source : List ℕ) (ts : Trees) : Type 0 where
    pub kept : List Lexeme
    pub place : ℕ
    pub left : List Lexeme
    pub setting : limits.valid s ≡ true
    pub short : length source ≤ limits.size
    pub utf8 : Utf8 source
    pub lexemes : Kept source kept
    pub reads : Reads (limits.prefix s) s limits.depth kept (done ts place left)

  pub parsed : (room : ℕ) {s : ℕ} {source : List ℕ} {v : Verdict} → Judged Bad Kept limits s source v → Accepted (answer room v) → (ts : Trees) × (v ≡ tree ts) × Parsed s source ts
  unfolding verdict
  parsed room (bad_setting a) h = absurd (no_number _ _ _ _ _ (λ e. omega (arith, e)) (λ e. omega (arith, e)) h)
  parsed room (too_long a b) h = absurd (no_number _ _ _ _ _ (λ e. omega (arith, e)) (λ e. omega (arith, e)) h)
  parsed room (not_utf8 a b c d) h = absurd (no_number _ _ _ _ _ (λ e. omega (arith, e)) (λ e. omega (arith, e)) h)
  parsed room (bad_lexeme a b c d) h = absurd (no_number _ _ _ _ _ (λ e. omega (arith, e)) (λ e. omega (arith, e)) h)
  parsed room {s} {source} (read {xs} {o} a b c d e) h = by o e h
    where
      by : (o : Outcome) → Reads (limits.prefix s) s limits.depth xs o → Accepted (answer room (verdict o)) → (ts : Trees) × (verdict o ≡ tree ts) × Parsed s source ts
      by (done ts p ys) e h = (ts, refl, record { kept = xs; place = p; left = ys; setting = a; short = b; utf8 = c; lexemes = d; reads = e })
      by (broken n p ys x) e h = let r = refusal (limits.prefix s) s e in absurd (no_number _ _ _ _ _ (met_no_tree n x r) (met_no_room n x r) h)

  pub judged_tree : {s : ℕ} {source : List ℕ} {ts : Trees} → Parsed s source ts → Judged Bad Kept limits s source (tree ts)
  unfolding verdict
  judged_tree x = read x.setting x.short x.utf8 x.lexemes x.reads

  -- Settings with the same prefix power.
  under : {p q s : ℕ} {xs : List Lexeme} {o : Outcome} → p ≡ q → Reads p s limits.depth xs o → Reads q s limits.depth xs o
  under {s = s} {xs} {o} e r = subst (λ (m : ℕ). Reads m s limits.depth xs o) e r

  module _ (s s' : ℕ) (le : s ⊑ s') (source : List ℕ) (room : ℕ) {a a' : Answer} {out out' : List ℕ} (x : Answers Bad Kept limits s source room a out) (x' : Answers Bad Kept limits s' source room a' out') where
    -- THE LARGER SETTING changes no tree, whether or not it has room.
    pub larger : limits.prefix s ≡ limits.prefix s' → limits.valid s' ≡ true → Accepted a → (a' ≡ a) × (out' ≡ out)
    larger alike h acc =
        let p = parsed room x.judged (subst Accepted x.answered acc) in
        let y : Parsed s source p.0 = p.2 in
        let z : Judged Bad Kept limits s' source (tree p.0) =
        judged_tree (record { kept = y.kept; place = y.place; left = y.left; setting = h; short = y.short; utf8 = y.utf8; lexemes = y.lexemes; reads = under alike (same_tree (limits.prefix s) s s' le y.reads) }) in
        answers_once x' (record { found = tree p.0; judged = z; answered = x.answered ∙ ap (answer room) p.1; written = x.written ∙ ap (output room) p.1 })

    -- Number 5 at the first place that the larger reads by a switch the smaller lacks.
    pub record Fifth : Type 0 where
      pub trees : Trees
      pub parse : Parsed s' source trees
      pub place : ℕ
      pub left : List Lexeme
      pub detail : ℕ
      pub foremost : first (limits.prefix s') s s' parse.reads ≡ some (at place left)
      pub answered : a ≡ record { number = WANTED; start = start_of place left; stop = stop_of place left; detail = detail; size = 0 }
      pub written : out ≡ replicate room 0

    -- THE SMALLER SETTING gives the same, or is refused there.
    pub smaller : limits.prefix s ≡ limits.prefix s' → limits.valid s ≡ true → Accepted a' → ((a ≡ a') × (out ≡ out')) ⊎ Fifth
    unfolding verdict answer output
    smaller alike h acc = by (demand_3 (limits.prefix s') s s' le y.reads r.1)
      where
        p : (ts : Trees) × (x'.found ≡ tree ts) × Parsed s' source ts
        p = parsed room x'.judged (subst Accepted x'.answered acc)

        y : Parsed s' source p.0
        y = p.2

        r : (o : Outcome) × Reads (limits.prefix s') s limits.depth y.kept o
        r = ends (limits.prefix s') s limits.depth y.kept

        -- s answers as its own reading says.
        own : (o : Outcome) → r.0 ≡ o → (a ≡ answer room (verdict o)) × (out ≡ output room (verdict o))
        own o e =
            let j = judged_once x.judged (read h y.short y.utf8 y.lexemes (under (sym alike) r.1)) ∙ ap verdict e in
            (x.answered ∙ ap (answer room) j, x.written ∙ ap (output room) j)

        by : (r.0 ≡ done p.0 y.place y.left)
            ⊎ ((k : ℕ) × (zs : List Lexeme) × (n : ℕ) × (first (limits.prefix s') s s' y.reads ≡ some (at k zs)) × (r.0 ≡ broken 5 k zs n))
            → ((a ≡ a') × (out ≡ out')) ⊎ Fifth
        by (inl e) =
            let o = own _ e in
            inl (o.0 ∙ sym (x'.answered ∙ ap (answer room) p.1), o.1 ∙ sym (x'.written ∙ ap (output room) p.1))
        by (inr f) =
            let o = own _ f.4 in
            inr (record { trees = p.0; parse = y; place = f.0; left = f.1; detail = f.2; foremost = f.3; answered = o.0; written = o.1 })

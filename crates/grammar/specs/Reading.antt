-- Derivations: how productions are read. One relation for the whole grammar; it goes by productions and does not run a parser.
-- Assumes nothing.
use Rattle.std.specs.Prelude.{◌≡◌, Bool, true, false, ◌&&◌, List, ℕ, zero, suc, ◌/◌, ◌%◌, eqb}
use Rattle.grammar.specs.Numbers.{WANTED, DEPTH}
use Rattle.grammar.specs.Trees.{Field, Trees, none, tree, ◌⊕◌, count}
use Rattle.grammar.specs.Lexemes.{Lexeme, rest, kind_of, word_of, start_of, stop_of}
use Rattle.grammar.specs.Productions.{Phrase, Body, end, goto, fail, ◌▸◌, eat, leaf, sub, deep, close, Switch, always, exp_destruct, exp_object_iteration, exp_null_coaelse, row, Table, otherwise, ◌∣◌, View, rule, source}

-- R25. "Setting is a sum of 1 (`exp_destruct`), 2 (`exp_object_iteration`), 4 (`exp_null_coaelse`)."
unfoldable pub has : ℕ → Switch → Bool
has s always = true
has s exp_destruct = eqb (s % 2) 1
has s exp_object_iteration = eqb (s / 2 % 2) 1
has s exp_null_coaelse = eqb (s / 4 % 2) 1

-- R19, R25. 02, Item 9: with 8, signs bind as the Jsonnet specification has it. No production has this switch: it decides on the prefix power.
unfoldable pub published : ℕ → Bool
published s = eqb (s / 8 % 2) 1

-- R16, R17. The first production whose test holds and whose switch is on.
unfoldable pub choose : ℕ → Table → Body
choose s (otherwise b) = b
choose s (row g t b ∣ rest) = elim (t && has s g) [ true ↦ b | false ↦ choose s rest ]

-- What a production sees where the last lexeme ended at p, xs are left and the phrase has n trees.
unfoldable pub view : ℕ → List Lexeme → ℕ → View
view p xs n =
    record {
      kind = kind_of xs;
      kind₁ = kind_of (rest xs);
      kind₂ = kind_of (rest (rest xs));
      kind₃ = kind_of (rest (rest (rest xs)));
      start = start_of p xs;
      stop = stop_of p xs;
      before = p;
      says = word_of xs;
      says₁ = word_of (rest xs);
      count = n;
    }

-- What phrase q is there, under a prefix power and a setting.
unfoldable pub production : ℕ → ℕ → Phrase → ℕ → List Lexeme → ℕ → Body
production prefix s q p xs n = choose s (rule prefix q (view p xs n))

-- R16, R31. A phrase's outcome: done, with its trees; or broken, with 01's number and detail. Both with where the last lexeme ended and what is left.
pub data Outcome : Type 0 where
  done : Trees → ℕ → List Lexeme → Outcome
  broken : ℕ → ℕ → List Lexeme → ℕ → Outcome  -- number, place, what is left, detail

-- R16. `Reading prefix s body ts d p xs o`: with the trees ts, d levels of depth left, the last lexeme ended at p and xs left, a phrase that
-- goes on with body has the outcome o.
pub data Reading (prefix s : ℕ) : Body → Trees → ℕ → ℕ → List Lexeme → Outcome → Type 0 where
  ended : {ts : Trees} {d p : ℕ} {xs : List Lexeme} → Reading prefix s end ts d p xs (done ts p xs)
  failed : {n x : ℕ} {ts : Trees} {d p : ℕ} {xs : List Lexeme} → Reading prefix s (fail n x) ts d p xs (broken n p xs x)
  gone : {q : Phrase} {ts : Trees} {d p : ℕ} {xs : List Lexeme} {o : Outcome}
      → Reading prefix s (production prefix s q p xs (count ts)) ts d p xs o → Reading prefix s (goto q) ts d p xs o
  eaten : {k : ℕ} {b : Body} {ts : Trees} {d p : ℕ} {xs : List Lexeme} {o : Outcome}
      → kind_of xs ≡ k → Reading prefix s b ts d (stop_of p xs) (rest xs) o → Reading prefix s (eat k ▸ b) ts d p xs o
  uneaten : {k : ℕ} {b : Body} {ts : Trees} {d p : ℕ} {xs : List Lexeme} → ¬ (kind_of xs ≡ k) → Reading prefix s (eat k ▸ b) ts d p xs (broken WANTED p xs k)
  leafed : {t : ℕ} {fs : List Field} {b : Body} {ts : Trees} {d p : ℕ} {xs : List Lexeme} {o : Outcome}
      → Reading prefix s b (ts ⊕ tree t fs none) d (stop_of p xs) (rest xs) o → Reading prefix s (leaf t fs ▸ b) ts d p xs o
  closed : {t : ℕ} {fs : List Field} {b : Body} {ts : Trees} {d p : ℕ} {xs : List Lexeme} {o : Outcome}
      → Reading prefix s b (tree t fs ts) d p xs o → Reading prefix s (close t fs ▸ b) ts d p xs o
  subbed : {q : Phrase} {b : Body} {ts us : Trees} {d p r : ℕ} {xs ys : List Lexeme} {o : Outcome}
      → Reading prefix s (production prefix s q p xs 0) none d p xs (done us r ys) → Reading prefix s b (ts ⊕ us) d r ys o
      → Reading prefix s (sub q ▸ b) ts d p xs o
  unsubbed : {q : Phrase} {b : Body} {ts : Trees} {d p n r x : ℕ} {xs ys : List Lexeme}
      → Reading prefix s (production prefix s q p xs 0) none d p xs (broken n r ys x) → Reading prefix s (sub q ▸ b) ts d p xs (broken n r ys x)
  -- R5. "Each entry to `expr_bp` counts one while it lasts; so does each array or object pattern, and the header `[k]:`"
  deepened : {q : Phrase} {b : Body} {ts us : Trees} {d p r : ℕ} {xs ys : List Lexeme} {o : Outcome}
      → Reading prefix s (production prefix s q p xs 0) none d p xs (done us r ys) → Reading prefix s b (ts ⊕ us) (suc d) r ys o
      → Reading prefix s (deep q ▸ b) ts (suc d) p xs o
  undeepened : {q : Phrase} {b : Body} {ts : Trees} {d p n r x : ℕ} {xs ys : List Lexeme}
      → Reading prefix s (production prefix s q p xs 0) none d p xs (broken n r ys x) → Reading prefix s (deep q ▸ b) ts (suc d) p xs (broken n r ys x)
  -- R5, R39. "Depth is tested before the lexeme is."
  too_deep : {q : Phrase} {b : Body} {ts : Trees} {p : ℕ} {xs : List Lexeme} → Reading prefix s (deep q ▸ b) ts zero p xs (broken DEPTH p xs 0)

-- R16. The whole source, of which xs are the kept lexemes.
abbrev pub Reads : ℕ → ℕ → ℕ → List Lexeme → Outcome → Type 0
Reads prefix s depth xs o = Reading prefix s source none depth 0 xs o

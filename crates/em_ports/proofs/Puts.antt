-- What a place for a port shows after words were put to the ports.
use Rattle.std.proofs.Common.{◌≡◌, ℕ, zero, suc, true, false, cond, ◌==◌, List, [], ◌∷◌, map, Option, None, Some, inl, inr, refl, sym, ap, subst, ◌∙◌}
use Rattle.std.specs.List.{fold, filter}
use Rattle.std.proofs.lemmas.List.{get_or-set_other}
use Rattle.std.proofs.lemmas.List.Folds.{fold_stays}
use Rattle.std.proofs.lemmas.Bool.Decides.{eqb_tells}
use Rattle.em_ports.specs.Ports.{Plugged, Places, next_value, port_at, after_word, after_put, after_puts, words_to}

-- a place after words were put to it one after another
abbrev after_words : Option Plugged → List ℕ → Option Plugged
after_words place words = fold (λ before word. after_word word before) place words

-- a port folds the words that are put to it, and keeps its kind
pub some-after_words : (port : Plugged) (words : List ℕ) → fold (λ place word. after_word word place) (Some port) words
    ≡ Some (record { kind = port.kind; value = fold (next_value port.kind) port.value words })
some-after_words port [] = refl
some-after_words port (word ∷ words) = some-after_words (record { kind = port.kind; value = next_value port.kind port.value word }) words

-- an empty place stays empty
none-after_words : (words : List ℕ) → after_words None words ≡ None
none-after_words words = fold_stays (λ before word. after_word word before) None (λ _. refl) words

-- a put changes its own place as a word does
port_at-after_put : (places : Places) (p word : ℕ) → port_at (after_put places p word) p ≡ after_word word (port_at places p)
port_at-after_put [] p word = refl
port_at-after_put (place ∷ places) zero word = refl
port_at-after_put (place ∷ places) (suc p) word = port_at-after_put places p word

-- the words of one port come from its own puts
words_to-own : (p : ℕ) (put : ℕ × ℕ) (puts : List (ℕ × ℕ)) → (put.0 == p) ≡ true → words_to p (put ∷ puts) ≡ put.1 ∷ words_to p puts
words_to-own p put puts own = ap (λ b. map (λ x. x.1) (cond b (put ∷ filter (λ x. x.0 == p) puts) (filter (λ x. x.0 == p) puts))) own

-- and not from a put to another
words_to-other : (p : ℕ) (put : ℕ × ℕ) (puts : List (ℕ × ℕ)) → (put.0 == p) ≡ false → words_to p (put ∷ puts) ≡ words_to p puts
words_to-other p put puts other = ap (λ b. map (λ x. x.1) (cond b (put ∷ filter (λ x. x.0 == p) puts) (filter (λ x. x.0 == p) puts))) other

-- puts to many ports change a place as the words to it alone do
pub port_at-after_puts : (p : ℕ) (puts : List (ℕ × ℕ)) (places : Places) → port_at (after_puts places puts) p ≡ after_words (port_at places p) (words_to p puts)
port_at-after_puts p [] places = refl
port_at-after_puts p (put ∷ puts) places = port_at-after_puts p puts (after_put places put.0 put.1) ∙ elim (eqb_tells put.0 p) [
  | inl h ↦ ap (λ place. after_words place (words_to p puts)) (own h.1) ∙ sym (ap (after_words (port_at places p)) (words_to-own p put puts h.0))
  | inr h ↦ ap (λ place. after_words place (words_to p puts)) (get_or-set_other places put.0 p (after_word put.1 (port_at places put.0)) None (λ e. h.1 (sym e)))
      ∙ sym (ap (after_words (port_at places p)) (words_to-other p put puts h.0))
]
  where
    own : put.0 ≡ p → port_at (after_put places put.0 put.1) p ≡ after_word put.1 (port_at places p)
    own e = subst (λ q. port_at (after_put places q put.1) p ≡ after_word put.1 (port_at places p)) (sym e) (port_at-after_put places p put.1)

-- a port folds the words of its own puts
pub some-after_puts : (places : Places) (puts : List (ℕ × ℕ)) (p : ℕ) (port : Plugged) → port_at places p ≡ Some port → port_at (after_puts places puts) p
    ≡ Some (record { kind = port.kind; value = fold (next_value port.kind) port.value (words_to p puts) })
some-after_puts places puts p port plugged = port_at-after_puts p puts places ∙ ap (λ place. after_words place (words_to p puts)) plugged ∙ some-after_words port (words_to p puts)

-- puts plug nothing in
pub none-after_puts : (places : Places) (puts : List (ℕ × ℕ)) (p : ℕ) → port_at places p ≡ None → port_at (after_puts places puts) p ≡ None
none-after_puts places puts p empty = port_at-after_puts p puts places ∙ ap (λ place. after_words place (words_to p puts)) empty ∙ none-after_words (words_to p puts)

-- A listing, one line more.
use Rattle.std.proofs.Common.{◌≡◌, ℕ, suc, ◌+◌, ◌*◌, ◌<◌, List, [], ◌∷◌, ◌++◌, length, take, get_or, refl, sym, ap, subst, ◌∙◌, arith, add-one, append_assoc, append-nil}
use Rattle.std.proofs.Math.Seq.{take-suc}
use Rattle.std.proofs.lemmas.List.{length-take-le}
use Rattle.em_show.specs.Listing.{AreTextsOf, IsListing, IsTextOf, listed_line, listed_lines}

texts-push : (words : List ℕ) (texts : List (List ℕ)) (word : ℕ) (own : List ℕ) → AreTextsOf words texts → IsTextOf word own → AreTextsOf (words ++ word ∷ []) (texts ++ own ∷ [])
texts-push [] texts word own h t = (own, [], ap (λ ts. ts ++ own ∷ []) h, t, refl)
texts-push (w ∷ ws) texts word own h t = (h.0, h.1 ++ own ∷ [], ap (λ ts. ts ++ own ∷ []) h.2, h.3, texts-push ws h.1 word own h.4 t)

lines-push : (place : ℕ) (words : List ℕ) (texts : List (List ℕ)) (word : ℕ) (own : List ℕ) → AreTextsOf words texts
    → listed_lines place (words ++ word ∷ []) (texts ++ own ∷ []) ≡ listed_lines place words texts ++ listed_line (4 * (place + length words)) word own
lines-push place [] texts word own h =
    let here : place ≡ place + 0 = omega arith in
    ap (λ ts. listed_lines place (word ∷ []) (ts ++ own ∷ [])) h ∙ append-nil (listed_line (4 * place) word own) ∙ ap (λ p. listed_line (4 * p) word own) here ∙ ap (λ ts. listed_lines place [] ts ++ listed_line (4 * (place + 0)) word own) (sym h)
lines-push place (w ∷ ws) texts word own h =
    let here : suc place + length ws ≡ place + length (w ∷ ws) = omega arith in
    ap (λ ts. listed_lines place (w ∷ (ws ++ word ∷ [])) (ts ++ own ∷ [])) h.2
    ∙ ap (λ rest. listed_line (4 * place) w h.0 ++ rest) (lines-push (suc place) ws h.1 word own h.4)
    ∙ ap (λ p. listed_line (4 * place) w h.0 ++ (listed_lines (suc place) ws h.1 ++ listed_line (4 * p) word own)) here
    ∙ sym (append_assoc (listed_line (4 * place) w h.0) (listed_lines (suc place) ws h.1) (listed_line (4 * (place + length (w ∷ ws))) word own))
    ∙ ap (λ ts. listed_lines place (w ∷ ws) ts ++ listed_line (4 * (place + length (w ∷ ws))) word own) (sym h.2)

-- the listing of one word more has one line more
pub listing-next : (words : List ℕ) (i : ℕ) (text own : List ℕ) → i < length words → IsListing (take i words) text → IsTextOf (get_or words i 0) own
    → IsListing (take (i + 1) words) (text ++ listed_line (4 * i) (get_or words i 0) own)
listing-next words i text own h listed t =
    let more : take (i + 1) words ≡ take i words ++ get_or words i 0 ∷ [] = ap (λ n. take n words) (add-one i) ∙ take-suc words i 0 h in
    let count : 0 + length (take i words) ≡ i = omega (arith, length-take-le i words (omega arith)) in
    subst (λ ws. IsListing ws (text ++ listed_line (4 * i) (get_or words i 0) own)) (sym more) (
      listed.0 ++ own ∷ [],
      texts-push (take i words) listed.0 (get_or words i 0) own listed.1 t,
      ap (λ x. x ++ listed_line (4 * i) (get_or words i 0) own) listed.2
          ∙ ap (λ p. listed_lines 0 (take i words) listed.0 ++ listed_line (4 * p) (get_or words i 0) own) (sym count)
          ∙ sym (lines-push 0 (take i words) listed.0 (get_or words i 0) own listed.1),
    )

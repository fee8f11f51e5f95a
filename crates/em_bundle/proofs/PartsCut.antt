-- Parts that follow each other are the parts of their lines.
use Rattle.std.proofs.Common.{◌≡◌, ◌∙◌, ℕ, ◌+◌, ◌<◌, ◌≤◌, Bool, true, false, cond, not, List, [], ◌∷◌, ◌++◌, length, take, drop, get_or, Result, Ok, Err, IfErr, inl, inr, refl, sym, ap, ap₂, subst, arith, append-nil, append_assoc, length-append}
use Rattle.std.proofs.Math.ListN.{drop_of_length-le}
use Rattle.std.proofs.Math.Seq.{drop-append_seam, get_or-append_seam, take-append_seam}
use Rattle.std.proofs.lemmas.List.{get_or_past}
use Rattle.std.proofs.lemmas.List.Elements.{filter-append}
use Rattle.std.proofs.lemmas.Slice.Eq.{bytes_eq-Decides}
use Rattle.std.specs.List.{after_first, before_first, list_all, position_or_len}
use Rattle.std.specs.Result.{IsErr, IsErrAnd}
use Rattle.std.specs.Str.{bytes_eq}
use Rattle.em_base.proofs.Trimming.{both, both_are}
use Rattle.em_base.specs.declared.refusals.Refusal.{Refusal}
use Rattle.em_bundle.specs.declared.faults.Fault.TheVariants.{MissingPart, MisplacedHeader}
use Rattle.em_bundle.specs.Faults.{refusal_at}
use Rattle.em_bundle.specs.Parts.{IsMisplaced, IsShort, IsUncut, header_number, headers, headers_in, is_header, line_at, part_of}
use Rattle.em_bundle.specs.Walk.{ArePlain, IsFront, IsHeaded, IsParted, IsUnparted}

-- lines, each as its bytes
abbrev pub Lines : Type 0
Lines = List (List ℕ)

-- ---- where a line stands among lines

position-at : (p : List ℕ → Bool) (front : Lines) (x : List ℕ) (rest : Lines) → list_all (λ y. not (p y)) front ≡ true → p x ≡ true → position_or_len p (front ++ x ∷ rest) ≡ length front
position-at p [] x rest h e = ap (λ b. cond (not b) (1 + position_or_len p rest) 0) e
position-at p (y ∷ front) x rest h e =
    let b = both (not (p y)) (list_all (λ y. not (p y)) front) h in
    ap (λ t. cond t (1 + position_or_len p (front ++ x ∷ rest)) 0) b.0 ∙ omega (arith, position-at p front x rest b.1 e)

position-none : (p : List ℕ → Bool) (front : Lines) → list_all (λ y. not (p y)) front ≡ true → position_or_len p front ≡ length front
position-none p [] h = refl
position-none p (y ∷ front) h =
    let b = both (not (p y)) (list_all (λ y. not (p y)) front) h in
    ap (λ t. cond t (1 + position_or_len p front) 0) b.0 ∙ omega (arith, position-none p front b.1)

after-at : (p : List ℕ → Bool) (front : Lines) (x : List ℕ) (rest : Lines) → list_all (λ y. not (p y)) front ≡ true → p x ≡ true → after_first p (front ++ x ∷ rest) ≡ rest
after-at p front x rest h e =
    let place : position_or_len p (front ++ x ∷ rest) + 1 ≡ length (front ++ x ∷ []) = omega (arith, position-at p front x rest h e, length-append front (x ∷ [])) in
    ap₂ (λ n ls. drop n ls) place (sym (append_assoc front (x ∷ []) rest)) ∙ drop-append_seam (front ++ x ∷ []) rest

before-headed : (part rest : Lines) → ArePlain part → IsHeaded rest → before_first is_header (part ++ rest) ≡ part
before-headed part rest plain (inl none) =
    ap (λ ls. before_first is_header (part ++ ls)) none ∙ ap (before_first is_header) (append-nil part)
    ∙ ap (λ n. take n part) (position-none is_header part plain) ∙ all
  where
    all : take (length part) part ≡ part
    all = ap (take (length part)) (sym (append-nil part)) ∙ take-append_seam part []
before-headed part [] plain (inr headed) = absurd (cc)
before-headed part (x ∷ rest) plain (inr headed) = ap (λ n. take n (part ++ x ∷ rest)) (position-at is_header part x rest plain headed) ∙ take-append_seam part (x ∷ rest)

-- ---- header lines

-- there are none where no line is one
pub plain-headers : (part : Lines) → ArePlain part → headers_in part ≡ []
plain-headers [] h = refl
plain-headers (line ∷ part) h =
    let b = both (not (is_header line)) (list_all (λ l. not (is_header l)) part) h in
    ap (λ t. cond t (line ∷ headers_in part) (headers_in part)) (not-yes (is_header line) b.0) ∙ plain-headers part b.1
  where
    not-yes : (b : Bool) → not b ≡ true → b ≡ false
    not-yes true e = absurd (cc)
    not-yes false e = refl

-- no line is the header
abbrev pub Differ : List ℕ → Lines → Type 0
Differ header texts = list_all (λ line. not (bytes_eq header line)) texts ≡ true

-- lines that are no header lines differ from each header
pub plain-differ : (header : List ℕ) (part : Lines) → is_header header ≡ true → ArePlain part → Differ header part
plain-differ header [] h plain = refl
plain-differ header (line ∷ part) h plain =
    let b = both (not (is_header line)) (list_all (λ l. not (is_header l)) part) plain in
    both_are (not (bytes_eq header line)) (list_all (λ l. not (bytes_eq header l)) part) (by_test (bytes_eq header line) refl b.0) (plain-differ header part h b.1)
  where
    by_test : (b : Bool) → bytes_eq header line ≡ b → not (is_header line) ≡ true → not b ≡ true
    by_test false e p = refl
    by_test true e p =
        let same : header ≡ line = (bytes_eq-Decides header line).0 e in
        let wrong : not true ≡ true = ap not (sym (ap is_header (sym same) ∙ h)) ∙ p in
        absurd (cc)

-- ---- a part at its header

pub record IsPlaced (texts part : Lines) (header : List ℕ) (place : ℕ) : Type 0 where
  pub found : part_of header texts ≡ part
  pub number : header_number header texts ≡ place + 1

-- where a header stands after lines that aren't it, its part is the one that follows it
pub placed : (texts front after part rest : Lines) (header : List ℕ) → texts ≡ front ++ header ∷ after → IsFront after part rest → Differ header front → bytes_eq header header ≡ true
    → IsPlaced texts part header (length front)
placed texts front after part rest header e f differ same = record {
  found =
      ap (λ ls. before_first is_header (after_first (bytes_eq header) ls)) e
      ∙ ap (before_first is_header) (after-at (bytes_eq header) front header after differ same ∙ f.joined)
      ∙ before-headed part rest f.plain f.headed;
  number = ap (λ ls. position_or_len (bytes_eq header) ls + 1) e ∙ ap (λ n. n + 1) (position-at (bytes_eq header) front header after differ same);
}

-- where no line is the header, its part has no lines, and its number is the one that a line after these would have
pub unplaced : (texts front : Lines) (header : List ℕ) → texts ≡ front → Differ header front → IsPlaced texts [] header (length front)
unplaced texts front header e differ =
    let place : position_or_len (bytes_eq header) front ≡ length front = position-none (bytes_eq header) front differ in
    let past : after_first (bytes_eq header) front ≡ [] = drop_of_length-le front (omega (arith, place)) in
    record {
      found = ap (λ ls. before_first is_header (after_first (bytes_eq header) ls)) e ∙ ap (before_first is_header) past;
      number = ap (λ ls. position_or_len (bytes_eq header) ls + 1) e ∙ ap (λ n. n + 1) place;
    }

headers-front : (front after part rest : Lines) (header : List ℕ) → is_header header ≡ true → IsFront after part rest
    → headers_in (front ++ header ∷ part) ≡ headers_in front ++ header ∷ []
headers-front front after part rest header h f =
    filter-append is_header front (header ∷ part)
    ∙ ap (λ b. headers_in front ++ cond b (header ∷ headers_in part) (headers_in part)) h
    ∙ ap (λ hs. headers_in front ++ header ∷ hs) (plain-headers part f.plain)

-- ---- the parts so far

-- the headers of the lines so far are the first that are due, and these lines are left
pub record IsBegun (replay : Bool) (texts front rest : Lines) (count : ℕ) : Type 0 where
  pub joined : texts ≡ front ++ rest
  pub first : headers_in front ≡ take count (headers replay)
  pub headed : is_header (line_at texts 0) ≡ true

-- one part more
pub begun-next : (replay : Bool) (texts front rest part after : Lines) (count : ℕ) (header : List ℕ) → IsBegun replay texts front rest count → IsParted header rest part after
    → is_header header ≡ true → take count (headers replay) ++ header ∷ [] ≡ take (count + 1) (headers replay) → IsBegun replay texts (front ++ header ∷ part) after (count + 1)
begun-next replay texts front rest part after count header b p h e = record {
  joined =
      b.joined ∙ ap (λ ls. front ++ ls) (p.joined ∙ ap (λ ls. header ∷ ls) p.parted.joined)
      ∙ sym (append_assoc front (header ∷ part) after);
  first = headers-front front p.after part after header h p.parted ∙ ap (λ hs. hs ++ header ∷ []) b.first ∙ e;
  headed = b.headed;
}

pub begun : (replay : Bool) (texts : Lines) → is_header (line_at texts 0) ≡ true → IsBegun replay texts [] texts 0
begun replay texts headed = record { joined = refl; first = refl; headed = headed }

-- ---- a header that is missing or misplaced

pub misplaced-at : (replay : Bool) (texts front rest : Lines) (line : List ℕ) (count : ℕ) (refusal : Refusal) → IsBegun replay texts front (line ∷ rest) count
    → count ≤ length (headers replay) → is_header line ≡ true → bytes_eq line (get_or (headers replay) count []) ≡ false
    → refusal ≡ refusal_at MisplacedHeader (length front + 1) → IsMisplaced replay texts refusal
misplaced-at replay texts front rest line count refusal b few header other named =
    let here : line_at texts (length front) ≡ line = ap (λ ls. line_at ls (length front)) b.joined ∙ get_or-append_seam front line rest [] in
    record {
      headed = b.headed;
      place = length front;
      count = count;
      within = omega (arith, ap length b.joined, length-append front (line ∷ rest));
      header = ap is_header here ∙ header;
      before = (few, ap headers_in (ap (take (length front)) b.joined ∙ take-append_seam front (line ∷ rest)) ∙ b.first);
      other = ap (λ l. bytes_eq l (get_or (headers replay) count [])) here ∙ other;
      named = named;
    }

pub short-at : (replay : Bool) (texts front : Lines) (count : ℕ) (refusal : Refusal) → IsBegun replay texts front [] count → count < length (headers replay)
    → refusal ≡ refusal_at MissingPart (length front + 1) → IsShort replay texts refusal
short-at replay texts front count refusal b few named =
    let whole : texts ≡ front = b.joined ∙ append-nil front in
    record {
      headed = b.headed;
      count = count;
      before = (omega (arith, few), ap headers_in whole ∙ b.first);
      due = few;
      named = named ∙ ap (λ ls. refusal_at MissingPart (length ls + 1)) (sym whole);
    }

first-headed : (line : List ℕ) (rest : Lines) → IsHeaded (line ∷ rest) → is_header line ≡ true
first-headed line rest (inl none) = absurd (cc)
first-headed line rest (inr h) = h

-- what the next part answers where there is none
pub unparted : (replay : Bool) (texts front rest : Lines) (count number : ℕ) (header : List ℕ) (refusal : Refusal) → IsBegun replay texts front rest count → IsHeaded rest
    → count < length (headers replay) → get_or (headers replay) count [] ≡ header → number ≡ length front + 1 → IsUnparted header number rest refusal → IsUncut replay texts refusal
unparted replay texts front rest count number header refusal b headed few due n (inl missing) =
    inr (inr (short-at replay texts front count refusal (subst (λ ls. IsBegun replay texts front ls count) missing.0 b) few (missing.1 ∙ ap (refusal_at MissingPart) n)))
unparted replay texts front rest count number header refusal b headed few due n (inr other) =
    let line = other.0 in
    let is = subst IsHeaded other.2 headed in
    inr (inl (misplaced-at replay texts front other.1 line count refusal (subst (λ ls. IsBegun replay texts front ls count) other.2 b) (omega (arith, few))
    (first-headed line other.1 is) (ap (bytes_eq line) due ∙ other.3) (other.4 ∙ ap (refusal_at MisplacedHeader) n)))

-- a header after all that are due
pub one-too-many : (replay : Bool) (texts front rest after : Lines) (line : List ℕ) (refusal : Refusal) → IsBegun replay texts front rest (length (headers replay)) → IsHeaded rest
    → rest ≡ line ∷ after → refusal ≡ refusal_at MisplacedHeader (length front + 1) → IsUncut replay texts refusal
one-too-many replay texts front rest after line refusal b headed e named =
    let is = first-headed line after (subst IsHeaded e headed) in
    let none : get_or (headers replay) (length (headers replay)) [] ≡ [] = get_or_past (headers replay) (length (headers replay)) [] (omega arith) in
    inr (inl (misplaced-at replay texts front after line (length (headers replay)) refusal (subst (λ ls. IsBegun replay texts front ls (length (headers replay))) e b) (omega arith) is
    (ap (bytes_eq line) none ∙ never (bytes_eq line []) refl is) named))
  where
    never : (b : Bool) → bytes_eq line [] ≡ b → is_header line ≡ true → b ≡ false
    never false t h = refl
    never true t h =
        let empty : line ≡ [] = (bytes_eq-Decides line []).0 t in
        let wrong : false ≡ true = ap is_header (sym empty) ∙ h in
        absurd (cc)

-- what `?` hands on
pub handed-on : {A E : Type 0} (P : E → Type 0) (result : Result A E) (error : E) → IsErr result → IsErrAnd result (λ e. e ≡ error) → P error → IfErr result P
handed-on P (Ok value) error h e p = tt
handed-on P (Err other) error h e p = subst P (sym e) p

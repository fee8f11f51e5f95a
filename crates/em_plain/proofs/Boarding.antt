-- The boards of messages, at the start and after a publication.
use Rattle.std.proofs.Common.{◌≡◌, ◌∙◌, ◌≢◌, ℕ, zero, suc, ◌+◌, ◌<◌, ◌≤◌, ◌==◌, ◌⊎◌, inl, inr, true, false, List, [], ◌∷◌, ◌++◌, length, map, replicate, slice_index_or, slice_set, All, sym, ap, subst, refl, arith}
use Rattle.std.specs.List.{slice_get}
use Rattle.std.proofs.Math.Seq.{get_or-append_seam}
use Rattle.std.proofs.lemmas.Bool.Decides.{eqb_tells}
use Rattle.std.proofs.lemmas.List.{get_or-set_other, get_or-set_same, length-append, length-map, length-replicate, length-set, map-set, set-get_or}
use Rattle.std.proofs.lemmas.List.Elements.{All-map, All-set, All-weaker}
use Rattle.em_base.specs.declared.tables.MsgRow.{MsgRow}
use Rattle.em_base.specs.declared.tables.Table.{Table}
use Rattle.em_gate.specs.Calls.{row_words, words_of}
use Rattle.em_gate.specs.State.{Value, values_at}
use Rattle.em_plain.specs.Boards.{AreBoards, AreReady, IsBoard, Posted, first_posted, no_posted, posted, posted_at}

abbrev size : Posted → ℕ
size board = length board.words

-- the words of one board
size_at : (boards : List Posted) (m : ℕ) → slice_index_or (map size boards) m 0 ≡ size (posted_at boards m)
size_at [] m = refl
size_at (board ∷ boards) zero = refl
size_at (board ∷ boards) (suc m) = size_at boards m

row_at : (rows : List MsgRow) (m : ℕ) → slice_index_or (map (λ row. row.words) rows) m 0 ≡ row_words (slice_get rows m)
row_at [] m = refl
row_at (row ∷ rows) zero = refl
row_at (row ∷ rows) (suc m) = row_at rows m

-- a board has as many words as its message
pub sized_at : (table : Table) (most : ℕ) (boards : List Posted) (m : ℕ) → AreReady table most boards → length (posted_at boards m).words ≡ words_of table m
sized_at table most boards m r = sym (size_at boards m) ∙ ap (λ sizes. slice_index_or sizes m 0) r.sized ∙ row_at table.messages m

-- there is a board for each message
pub board_there : (table : Table) (most : ℕ) (boards : List Posted) (m : ℕ) → AreReady table most boards → m < length table.messages → m < length boards
board_there table most boards m r h =
    omega (arith, h, length-map boards size, length-map table.messages (λ row. row.words), ap (λ sizes. length sizes) r.sized)

-- ---- a publication

-- the boards are ready for one value more
pub ready_posted : (table : Table) (most : ℕ) (boards : List Posted) (m : ℕ) (words : Value) → AreReady table most boards → m < length boards
    → length words ≡ length (posted_at boards m).words
    → AreReady table (most + 1) (slice_set boards m (posted words (posted_at boards m)))
ready_posted table most boards m words r h e =
    let board = posted words (posted_at boards m) in
    record {
      sized = map-set size boards m board
          ∙ ap (λ n. slice_set (map size boards) m n) (e ∙ sym (size_at boards m))
          ∙ set-get_or (map size boards) m 0
          ∙ r.sized;
      short = All-set (λ b. length b.words ≤ 16) boards m board (omega (arith, e, r.short m no_posted h)) r.short;
      few = All-set (λ b. b.number ≤ most + 1) boards m board (omega (arith, r.few m no_posted h))
          (All-weaker (λ b. b.number ≤ most) (λ b. b.number ≤ most + 1) (λ b le. omega (arith, le)) boards r.few);
    }

-- and they stay ready for more
pub ready_more : (table : Table) (most : ℕ) (boards : List Posted) → AreReady table most boards → AreReady table (most + 1) boards
ready_more table most boards r = record {
  sized = r.sized;
  short = r.short;
  few = All-weaker (λ b. b.number ≤ most) (λ b. b.number ≤ most + 1) (λ b le. omega (arith, le)) boards r.few;
}

board_posted : (board : Posted) (values : List Value) (words : Value) → IsBoard board values → IsBoard (posted words board) (values ++ words ∷ [])
board_posted board values words is = record {
  number = omega (arith, is.number, length-append values (words ∷ []));
  words = sym (ap (λ k. slice_index_or (values ++ words ∷ []) k []) is.number ∙ get_or-append_seam values words [] []);
}

-- each board shows the newest value, after one more of one message
pub boards_posted : (boards : List Posted) (values : List (List Value)) (m : ℕ) (words : Value) → AreBoards boards values → m < length boards
    → AreBoards (slice_set boards m (posted words (posted_at boards m))) (slice_set values m (values_at values m ++ words ∷ []))
boards_posted boards values m words are h = record {
  all = length-set boards m board ∙ are.all ∙ sym (length-set values m more);
  each = λ k less. by_message k (subst (λ n. k < n) (length-set values m more) less) (eqb_tells k m);
}
  where
    board : Posted
    board = posted words (posted_at boards m)

    more : List Value
    more = values_at values m ++ words ∷ []

    there : m < length values
    there = subst (λ n. m < n) are.all h

    by_message : (k : ℕ) → k < length values → (((k == m) ≡ true) × (k ≡ m)) ⊎ (((k == m) ≡ false) × (k ≢ m))
        → IsBoard (posted_at (slice_set boards m board) k) (values_at (slice_set values m more) k)
    by_message k less (inl e) =
        subst (λ n. IsBoard (posted_at (slice_set boards m board) n) (values_at (slice_set values m more) n)) (sym e.1)
        (subst (λ b. IsBoard b (values_at (slice_set values m more) m)) (sym (get_or-set_same boards m board no_posted h))
        (subst (λ vs. IsBoard board vs) (sym (get_or-set_same values m more [] there))
        (board_posted (posted_at boards m) (values_at values m) words (are.each m there))))
    by_message k less (inr e) =
        subst (λ b. IsBoard b (values_at (slice_set values m more) k)) (sym (get_or-set_other boards m k board no_posted e.1))
        (subst (λ vs. IsBoard (posted_at boards k) vs) (sym (get_or-set_other values m k more [] e.1))
        (are.each k less))

-- ---- the start

abbrev first_values : MsgRow → List Value
first_values row = replicate row.words 0 ∷ []

first_is : (rows : List MsgRow) (m : ℕ) → m < length (map first_values rows) → IsBoard (posted_at (map first_posted rows) m) (values_at (map first_values rows) m)
first_is [] m h = absurd (omega (arith, h))
first_is (row ∷ rows) zero h = record { number = refl; words = refl }
first_is (row ∷ rows) (suc m) h = first_is rows m (omega (arith, h))

-- each board shows value 0
pub first_boards : (rows : List MsgRow) → AreBoards (map first_posted rows) (map first_values rows)
first_boards rows = record {
  all = length-map rows first_posted ∙ sym (length-map rows first_values);
  each = first_is rows;
}

first_sizes : (rows : List MsgRow) → map size (map first_posted rows) ≡ map (λ row. row.words) rows
first_sizes [] = refl
first_sizes (row ∷ rows) = ap (λ n. n ∷ map size (map first_posted rows)) (length-replicate row.words 0) ∙ ap (λ rest. row.words ∷ rest) (first_sizes rows)

-- and they are ready
pub first_ready : (table : Table) → All (λ row. row.words ≤ 16) table.messages → AreReady table 0 (map first_posted table.messages)
first_ready table short = record {
  sized = first_sizes table.messages;
  short = All-map (λ b. length b.words ≤ 16) first_posted table.messages
      (λ i d less. omega (arith, length-replicate {A = ℕ} (slice_index_or table.messages i d).words 0, short i d less));
  few = All-map (λ b. b.number ≤ 0) first_posted table.messages (λ i d less. omega arith);
}

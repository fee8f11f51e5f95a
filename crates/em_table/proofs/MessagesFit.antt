-- A message that passes its tests is one that a table may have.
use Rattle.std.proofs.Common.{◌≡◌, ◌∙◌, ℕ, ◌<◌, ◌+◌, suc, inl, inr, Bool, true, false, not, List, [], ◌∷◌, map, Option, Some, None, All, refl, sym, ap, subst}
use Rattle.std.proofs.Common.{nat_eq, nat_lt, length, get_or, cond, arith, codes}
use Rattle.std.proofs.lemmas.Bool.{le-leb}
use Rattle.std.proofs.lemmas.Bool.Decides.{eqb_tells}
use Rattle.std.proofs.lemmas.List.Elements.{All-nil, All-cons}
use Rattle.std.proofs.lemmas.List.Folds.{list_any_at}
use Rattle.std.proofs.lemmas.List.Quantifiers.{position-Some}
use Rattle.std.proofs.lemmas.Slice.Eq.{bytes_eq-Decides}
use Rattle.std.specs.List.{list_all, list_any, position_or_len, AllByRecursion, IsDistinct}
use Rattle.std.specs.Option.{unwrap_or}
use Rattle.std.specs.Str.{bytes_eq}
use Rattle.toml.specs.Data.{Members, get_member}
use Rattle.em_base.specs.declared.tables.Kind.TheVariants.{Background}
use Rattle.em_base.specs.declared.tables.TaskRow.{TaskRow}
use Rattle.em_base.specs.Tables.{IsUrgent, IsMessage, IsGiven, IsFrom}
use Rattle.em_base.proofs.Trimming.{both}
use Rattle.em_table.specs.declared.keys.Need.TheVariants.{Required}
use Rattle.em_table.specs.Faults.{first_of}
use Rattle.em_table.specs.Tests.{message_fault, message_faults, message_of, message_row, all_names, is_named, is_of_background, is_background, place_of}
use Rattle.em_table.specs.Tests.{task_named}
use Rattle.em_table.specs.Values.{has_repeat, number_at}
use Rattle.em_table.proofs.NextItem.{item_at}
use Rattle.em_table.proofs.ValuesFit.{each_is_none, first_none, not_true, or_false, number_given}
use mathlib.Core.Bool.{◌&&◌, ◌||◌}

-- ---- places

place_below : (b rest : Bool) (n m : ℕ) → (b || rest) ≡ true → (rest ≡ true → n < m) → cond (not b) (1 + n) 0 < suc m
place_below true rest n m h f = omega arith
place_below false rest n m h f = let g = f h in omega (arith, g)

place_within : {A : Type 0} (test : A → Bool) (xs : List A) → list_any test xs ≡ true → position_or_len test xs < length xs
place_within test [] h = absurd (cc)
place_within test (x ∷ xs) h = place_below (test x) (list_any test xs) (position_or_len test xs) (length xs) h (place_within test xs)

found_place : (b : Bool) (n : ℕ) → b ≡ true → (i : ℕ) × (cond b (Some n) None ≡ Some i)
found_place true n h = (n, refl)
found_place false n h = absurd (cc)

named_at : (rows : List TaskRow) (name : List ℕ) → is_named rows name ≡ true → (i : ℕ) × (place_of rows name ≡ Some i)
named_at rows name h =
    let test = λ (row : TaskRow). bytes_eq name row.name in
    found_place (nat_lt (position_or_len test rows) (length rows)) (position_or_len test rows) (le-leb _ _ (place_within test rows h))

-- what stands at the place of a name
row_at_place : (rows : List TaskRow) (name : List ℕ) (i : ℕ) → is_named rows name ≡ true → place_of rows name ≡ Some i
    → (row : TaskRow) × (i < length rows) × (row ≡ get_or rows i row) × (bytes_eq name row.name ≡ true)
row_at_place rows name i h e =
    let test = λ (row : TaskRow). bytes_eq name row.name in
    let first = item_at rows 0 (omega (arith, place_within test rows h)) in
    let bound = (position-Some test rows i first.0 e).0 in
    let item = item_at rows i bound in
    (item.0, bound, item.1, ap test item.1 ∙ (position-Some test rows i item.0 e).1)

is_none_of : (rows : List TaskRow) (name : List ℕ) (i : ℕ) (row : TaskRow) → is_of_background rows name ≡ false → i < length rows → row ≡ get_or rows i row
    → bytes_eq name row.name ≡ true → row.kind ≡ Background → ⊥
is_none_of rows name i row b h e n k =
    let test = λ (row : TaskRow). bytes_eq name row.name && is_background row.kind in
    let here : test row ≡ true = rw (n, k) refl in
    let any = list_any_at test rows i row h (sym (ap test e) ∙ here) in
    absurd (let wrong : true ≡ false = sym any ∙ b in cc)

-- a name of a task that is no background task
urgent : (rows : List TaskRow) (name : List ℕ) → is_named rows name ≡ true → not (is_of_background rows name) ≡ true → IsUrgent rows (task_named rows name)
urgent rows name h b =
    let at = named_at rows name h in
    let there = row_at_place rows name at.0 h at.1 in
    let place : unwrap_or (place_of rows name) 0 ≡ at.0 = ap (λ o. unwrap_or o 0) at.1 in
    subst (λ n. IsUrgent rows (record { 0 = n })) (sym place)
    (there.0, there.1, there.2, is_none_of rows name at.0 there.0 (not_true _ b) there.1 there.2 there.3)

words_in_range : (o : Option ℕ) → IsGiven 1 16 o → IsFrom 1 16 (unwrap_or o 0)
words_in_range None h = absurd h
words_in_range (Some n) h = h

-- ---- readers

-- two names of one task are the same
same_task : (rows : List TaskRow) (a b : List ℕ) → is_named rows a ≡ true → is_named rows b ≡ true
    → (task_named rows a).0 ≡ (task_named rows b).0 → bytes_eq a b ≡ true
same_task rows a b ha hb e =
    let ia = named_at rows a ha in
    let ib = named_at rows b hb in
    let same : ia.0 ≡ ib.0 = sym (ap (λ o. unwrap_or o 0) ia.1) ∙ (e ∙ ap (λ o. unwrap_or o 0) ib.1) in
    let ra = row_at_place rows a ia.0 ha ia.1 in
    let pb : bytes_eq b (get_or rows ib.0 ra.0).name ≡ true = (position-Some (λ row. bytes_eq b row.name) rows ib.0 ra.0 ib.1).1 in
    let here : ra.0 ≡ get_or rows ib.0 ra.0 = ra.2 ∙ ap (λ n. get_or rows n ra.0) same in
    (bytes_eq-Decides a b).1
    ((bytes_eq-Decides a ra.0.name).0 ra.3 ∙ sym ((bytes_eq-Decides b ra.0.name).0 (ap (λ row. bytes_eq b row.name) here ∙ pb)))

numbers_differ : (m n : ℕ) (b : Bool) → (m ≡ n → b ≡ true) → b ≡ false → nat_eq m n ≡ false
numbers_differ m n b f h = elim (eqb_tells m n) [ inl t ↦ absurd (let wrong : true ≡ false = sym (f t.1) ∙ h in cc) | inr t ↦ t.0 ]

others_differ : (rows : List TaskRow) (a : List ℕ) (names : List (List ℕ)) → is_named rows a ≡ true → list_all (is_named rows) names ≡ true
    → list_any (bytes_eq a) names ≡ false → AllByRecursion (λ y. nat_eq (task_named rows a).0 y ≡ false) (map (λ t. t.0) (map (task_named rows) names))
others_differ rows a [] ha hn h = tt
others_differ rows a (b ∷ names) ha hn h =
    let n = both (is_named rows b) (list_all (is_named rows) names) hn in
    let o = or_false (bytes_eq a b) (list_any (bytes_eq a) names) h in
    (numbers_differ (task_named rows a).0 (task_named rows b).0 (bytes_eq a b) (same_task rows a b ha n.0) o.0, others_differ rows a names ha n.1 o.1)

once : (rows : List TaskRow) (names : List (List ℕ)) → list_all (is_named rows) names ≡ true → has_repeat bytes_eq names ≡ false
    → IsDistinct nat_eq (map (λ t. t.0) (map (task_named rows) names))
unfolding IsDistinct
once rows [] hn h = tt
once rows (a ∷ names) hn h =
    let n = both (is_named rows a) (list_all (is_named rows) names) hn in
    let o = or_false (list_any (bytes_eq a) names) (has_repeat bytes_eq names) h in
    (others_differ rows a names n.0 n.1 o.0, once rows names n.1 o.1)

all_urgent : (rows : List TaskRow) (names : List (List ℕ)) → list_all (is_named rows) names ≡ true → list_all (λ name. not (is_of_background rows name)) names ≡ true
    → All (IsUrgent rows) (map (task_named rows) names)
all_urgent rows [] hn hb = All-nil (IsUrgent rows)
all_urgent rows (a ∷ names) hn hb =
    let n = both (is_named rows a) (list_all (is_named rows) names) hn in
    let b = both (not (is_of_background rows a)) (list_all (λ name. not (is_of_background rows name)) names) hb in
    All-cons (IsUrgent rows) (task_named rows a) (map (task_named rows) names) (urgent rows a n.0 b.0) (all_urgent rows names n.1 b.1)

-- ---- messages

message_fits : (rows : List TaskRow) (group : Members) → message_fault group ≡ None → all_names (is_named rows) (message_of group) ≡ true
    → not (has_repeat bytes_eq (message_of group).readers) ≡ true → all_names (λ name. not (is_of_background rows name)) (message_of group) ≡ true
    → IsMessage rows (message_row rows (message_of group))
message_fits rows group h n r b =
    let message = message_of group in
    let t = each_is_none (message_faults group) h in
    let names = both (is_named rows message.writer) (list_all (is_named rows) message.readers) n in
    let backs = both (not (is_of_background rows message.writer)) (list_all (λ name. not (is_of_background rows name)) message.readers) b in
    record {
      words = words_in_range (number_at Required (get_member (codes "words") group)) (number_given 1 16 1 (get_member (codes "words") group) t.0);
      writer = urgent rows message.writer names.0 backs.0;
      readers = all_urgent rows message.readers names.1 backs.1;
      once = once rows message.readers names.1 (not_true _ r);
    }

-- all messages
pub messages_fit : (rows : List TaskRow) (groups : List Members) → first_of (map message_fault groups) ≡ None
    → list_all (all_names (is_named rows)) (map message_of groups) ≡ true
    → list_all (λ message. not (has_repeat bytes_eq message.readers)) (map message_of groups) ≡ true
    → list_all (all_names (λ name. not (is_of_background rows name))) (map message_of groups) ≡ true
    → All (IsMessage rows) (map (message_row rows) (map message_of groups))
messages_fit rows [] h n r b = All-nil (IsMessage rows)
messages_fit rows (group ∷ groups) h n r b =
    let f = first_none (message_fault group) (map message_fault groups) h in
    let names = both (all_names (is_named rows) (message_of group)) (list_all (all_names (is_named rows)) (map message_of groups)) n in
    let repeats = both (not (has_repeat bytes_eq (message_of group).readers)) (list_all (λ message. not (has_repeat bytes_eq message.readers)) (map message_of groups)) r in
    let backs = both (all_names (λ name. not (is_of_background rows name)) (message_of group)) (list_all (all_names (λ name. not (is_of_background rows name))) (map message_of groups)) b in
    All-cons (IsMessage rows) (message_row rows (message_of group)) (map (message_row rows) (map message_of groups))
    (message_fits rows group f.0 names.0 repeats.0 backs.0) (messages_fit rows groups f.1 names.1 repeats.1 backs.1)

-- The ranks of tasks, one after the other.
use Rattle.std.proofs.Common.{drop_of_length-le, ◌≡◌, ◌∙◌, ℕ, suc, ◌+◌, ◌<◌, ◌≤◌, List, [], ◌∷◌, ◌++◌, length, map, drop, slice_index_or, sym, ap, subst, arith, append_assoc, append-nil}
use Rattle.std.proofs.Math.Seq.{drop-cons}
use Rattle.std.proofs.lemmas.List.FromFn.{length-enumerate_from, get_or-enumerate_from}
use Rattle.em_base.specs.declared.tables.TaskRow.{TaskRow}
use Rattle.em_base.specs.Keys.{numbered}
use Rattle.em_system.specs.declared.selection.Rank.{Rank}
use Rattle.em_system.specs.Standings.{rank_of, ranks_of}

-- one rank more
pub next_rank : (rows : List TaskRow) (t : ℕ) (row : TaskRow) (items items' : List Rank) → t < length rows → row ≡ slice_index_or rows t row
    → items' ≡ items ++ rank_of rows (t, row) ∷ []
    → items ++ map (rank_of rows) (drop t (numbered rows)) ≡ ranks_of rows
    → items' ++ map (rank_of rows) (drop (t + 1) (numbered rows)) ≡ ranks_of rows
next_rank rows t row items items' h is e all =
    let inside : t < length (numbered rows) = subst (λ n. t < n) (sym (length-enumerate_from 0 rows)) h in
    let start : 0 + t ≡ t = omega arith in
    let next : suc t ≡ t + 1 = omega arith in
    let here : slice_index_or (numbered rows) t (0, row) ≡ (t, row) =
    get_or-enumerate_from 0 rows t (0, row) h ∙ ap (λ n. (n, slice_index_or rows t row)) start ∙ ap (λ r. (t, r)) (sym is) in
    let rest : List Rank = map (rank_of rows) (drop (t + 1) (numbered rows)) in
    ap (λ xs. xs ++ rest) e
    ∙ append_assoc items (rank_of rows (t, row) ∷ []) rest
    ∙ ap (λ n. items ++ rank_of rows (t, row) ∷ map (rank_of rows) (drop n (numbered rows))) (sym next)
    ∙ ap (λ r. items ++ rank_of rows r ∷ map (rank_of rows) (drop (suc t) (numbered rows))) (sym here)
    ∙ ap (λ xs. items ++ map (rank_of rows) xs) (sym (drop-cons (numbered rows) t (0, row) inside))
    ∙ all

-- no rank is left
pub last_rank : (rows : List TaskRow) (t : ℕ) (items : List Rank) → length rows ≤ t
    → items ++ map (rank_of rows) (drop t (numbered rows)) ≡ ranks_of rows → items ≡ ranks_of rows
last_rank rows t items h all =
    let none : drop t (numbered rows) ≡ [] = drop_of_length-le (numbered rows) (omega (arith, h, length-enumerate_from 0 rows)) in
    sym (append-nil items) ∙ ap (λ xs. items ++ map (rank_of rows) xs) (sym none) ∙ all

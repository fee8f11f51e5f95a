use Rattle.std.proofs.Common.{◌≤◌, ℕ, ◌+◌, ◌-◌, All, arith}
use Rattle.std.proofs.lemmas.List.Elements.{All-weaker}
use Rattle.em_base.specs.declared.tables.Table.{Table}
use Rattle.em_admit.specs.Depth.{IsDeepEnough, bound, depth, greatest_bound, message_at}
use Rattle.em_admit.proofs.Greatest.{least, none_above}
use Rattle.em_admit.proofs.laws.least_depth.Goals as goal

-- the depth is deep enough
is_deep : (table : Table) (m : ℕ) → IsDeepEnough table m (depth table m)
is_deep table m =
    let message = message_at table.messages m in
    let of = bound table.tasks message.writer in
    let most = greatest_bound table.tasks message in
    let all : All (λ reader. of reader ≤ most) message.readers = none_above of message.readers in
    record {
      two = omega arith;
      readers = All-weaker (λ reader. of reader ≤ most) (λ reader. 2 + of reader ≤ 2 + most)
          (λ reader below. omega arith) message.readers all;
    }

-- no less number is
is_least : (table : Table) (m n : ℕ) → IsDeepEnough table m n → depth table m ≤ n
is_least table m n deep =
    let message = message_at table.messages m in
    let of = bound table.tasks message.writer in
    let all : All (λ reader. of reader ≤ n - 2) message.readers =
    All-weaker (λ reader. 2 + of reader ≤ n) (λ reader. of reader ≤ n - 2) (λ reader below. omega arith) message.readers deep.readers in
    let two : 2 ≤ n = deep.two in
    let most : greatest_bound table.tasks message ≤ n - 2 = least (n - 2) of message.readers all in
    omega arith

pub returns-clause-at_least : goal.returns-clause-at_least
returns-clause-at_least c = is_deep

pub returns-clause-least : goal.returns-clause-least
returns-clause-least c = is_least

pub returns-clause-one : goal.returns-clause-one
returns-clause-one c = λ table m n deep lowest.
    let above : n ≤ depth table m = lowest (depth table m) (is_deep table m) in
    let below : depth table m ≤ n = is_least table m n deep in
    omega arith

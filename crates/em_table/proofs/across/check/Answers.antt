use Rattle.std.proofs.Common.{◌≡◌, ◌∙◌, sym, map, not, true, false, List, Bool, Some, None, nat_le, sum_by, refl}
use Rattle.std.specs.List.{list_all}
use Rattle.em_base.specs.Tables.{releases_of, most_releases}
use Rattle.em_table.specs.declared.faults.Fault.TheVariants.{Twice, Unknown, Background as InBackground, TooManyReleases}
use Rattle.em_table.specs.declared.messages.Draft.{Draft}
use Rattle.em_table.specs.Faults.{first_of}
use Rattle.em_table.specs.Reading.{message_in}
use Rattle.em_table.specs.Tests.{Message, across_faults, has_name_twice, has_line_twice, has_reader_twice, is_known, is_urgent}
use Rattle.em_table.proofs.FirstOfTests.{fails_by}
use Rattle.em_table.proofs.MappedTests.{all-map}
use Rattle.em_table.proofs.across.check.Goals as goal

all_in : (test : Message → Bool) (messages : List Draft) (b answer : Bool)
    → b ≡ list_all (λ message. test (message_in message)) messages → b ≡ answer
    → list_all test (map message_in messages) ≡ answer
all_in test messages b answer h e = sym (all-map test message_in messages) ∙ (sym h ∙ e)

pub returns-then-not-are_known : goal.returns-then-not-are_known
returns-then-not-are_known c =
    let names : has_name_twice c.args.rows.now ≡ false = sym c.in_ok-has_name_twice.ensures ∙ c.if-branch.false in
    let lines : has_line_twice c.args.rows.now ≡ false = sym c.in_ok-has_line_twice.ensures ∙ c.if-branch-2.false in
    let known = all_in (is_known c.args.rows.now) c.args.messages.now _ false c.are_known.ensures c.if-not-are_known.true in
    let first : first_of (across_faults c.args.horizon c.args.rows.now (map message_in c.args.messages.now)) ≡ Some Unknown = rw (names, lines, known) refl in
    fails_by _ Unknown _ c.into-then-not-are_known.ensures first

pub returns-then-not-have_readers_once : goal.returns-then-not-have_readers_once
returns-then-not-have_readers_once c =
    let names : has_name_twice c.args.rows.now ≡ false = sym c.in_ok-has_name_twice.ensures ∙ c.if-branch.false in
    let lines : has_line_twice c.args.rows.now ≡ false = sym c.in_ok-has_line_twice.ensures ∙ c.if-branch-2.false in
    let known = all_in (is_known c.args.rows.now) c.args.messages.now _ true c.are_known.ensures c.if-not-are_known.false in
    let once = all_in (λ message. not (has_reader_twice message)) c.args.messages.now _ false c.have_readers_once.ensures c.if-not-have_readers_once.true in
    let first : first_of (across_faults c.args.horizon c.args.rows.now (map message_in c.args.messages.now)) ≡ Some Twice = rw (names, lines, known, once) refl in
    fails_by _ Twice _ c.into-then-not-have_readers_once.ensures first

pub returns-then-not-are_urgent : goal.returns-then-not-are_urgent
returns-then-not-are_urgent c =
    let names : has_name_twice c.args.rows.now ≡ false = sym c.in_ok-has_name_twice.ensures ∙ c.if-branch.false in
    let lines : has_line_twice c.args.rows.now ≡ false = sym c.in_ok-has_line_twice.ensures ∙ c.if-branch-2.false in
    let known = all_in (is_known c.args.rows.now) c.args.messages.now _ true c.are_known.ensures c.if-not-are_known.false in
    let once = all_in (λ message. not (has_reader_twice message)) c.args.messages.now _ true c.have_readers_once.ensures c.if-not-have_readers_once.false in
    let urgent = all_in (is_urgent c.args.rows.now) c.args.messages.now _ false c.are_urgent.ensures c.if-not-are_urgent.true in
    let first : first_of (across_faults c.args.horizon c.args.rows.now (map message_in c.args.messages.now)) ≡ Some InBackground = rw (names, lines, known, once, urgent) refl in
    fails_by _ InBackground _ c.into-then-not-are_urgent.ensures first

pub returns-then-not-are_few : goal.returns-then-not-are_few
returns-then-not-are_few c =
    let names : has_name_twice c.args.rows.now ≡ false = sym c.in_ok-has_name_twice.ensures ∙ c.if-branch.false in
    let lines : has_line_twice c.args.rows.now ≡ false = sym c.in_ok-has_line_twice.ensures ∙ c.if-branch-2.false in
    let known = all_in (is_known c.args.rows.now) c.args.messages.now _ true c.are_known.ensures c.if-not-are_known.false in
    let once = all_in (λ message. not (has_reader_twice message)) c.args.messages.now _ true c.have_readers_once.ensures c.if-not-have_readers_once.false in
    let urgent = all_in (is_urgent c.args.rows.now) c.args.messages.now _ true c.are_urgent.ensures c.if-not-are_urgent.false in
    let few : nat_le (sum_by (releases_of c.args.horizon) c.args.rows.now) most_releases ≡ false = sym c.are_few.ensures ∙ c.if-not-are_few.true in
    let first : first_of (across_faults c.args.horizon c.args.rows.now (map message_in c.args.messages.now)) ≡ Some TooManyReleases = rw (names, lines, known, once, urgent, few) refl in
    fails_by _ TooManyReleases _ c.into-then-not-are_few.ensures first

pub returns : goal.returns
returns c =
    let names : has_name_twice c.args.rows.now ≡ false = sym c.in_ok-has_name_twice.ensures ∙ c.if-branch.false in
    let lines : has_line_twice c.args.rows.now ≡ false = sym c.in_ok-has_line_twice.ensures ∙ c.if-branch-2.false in
    let known = all_in (is_known c.args.rows.now) c.args.messages.now _ true c.are_known.ensures c.if-not-are_known.false in
    let once = all_in (λ message. not (has_reader_twice message)) c.args.messages.now _ true c.have_readers_once.ensures c.if-not-have_readers_once.false in
    let urgent = all_in (is_urgent c.args.rows.now) c.args.messages.now _ true c.are_urgent.ensures c.if-not-are_urgent.false in
    let few : nat_le (sum_by (releases_of c.args.horizon) c.args.rows.now) most_releases ≡ true = sym c.are_few.ensures ∙ c.if-not-are_few.false in
    let none : first_of (across_faults c.args.horizon c.args.rows.now (map message_in c.args.messages.now)) ≡ None = rw (names, lines, known, once, urgent, few) refl in
    (none, refl)

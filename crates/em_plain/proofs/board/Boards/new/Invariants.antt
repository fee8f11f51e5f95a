use Rattle.std.proofs.Common.{◌≡◌, map, take}
use Rattle.em_plain.specs.Boards.{first_posted}
use Rattle.em_plain.proofs.board.Boards.new.Given as goal

-- the rows so far have their boards
abbrev pub invariant-loop-row : goal.invariant-loop-row
invariant-loop-row l = l.boards.items ≡ map first_posted (take l.row-index l.app.table.messages)

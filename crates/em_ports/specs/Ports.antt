-- Ports: what they show, and what they make of the words that are put to them. The kinds of port are this project's own.
use Rattle.std.specs.Prelude.{ℕ, ◌+◌, ◌%◌, ◌^◌, ◌==◌, List, map, slice_index_or, slice_set, Option, None, Some}
use Rattle.std.specs.List.{fold, filter}
use Rattle.em_ports.specs.declared.kinds.PortKind.{PortKind}
use Rattle.em_ports.specs.declared.kinds.PortKind.TheVariants.{Count, Latch, Sum}

-- a port that is plugged in: its kind and the value that it shows
pub record Plugged : Type 0 where
  pub kind : PortKind
  pub value : ℕ

-- the value that a port of a kind shows after a word was put to it, by the value that it showed
abbrev pub next_value : PortKind → ℕ → ℕ → ℕ
next_value Count value word = (value + 1) % 2 ^ 32
next_value Latch value word = word
next_value Sum value word = (value + word) % 2 ^ 32

-- the places for ports, each empty or with its port; a place is empty where there is none
abbrev pub Places : Type 0
Places = List (Option Plugged)

abbrev pub port_at : Places → ℕ → Option Plugged
port_at places p = slice_index_or places p None

-- the value that a place shows
abbrev pub value_of : Option Plugged → Option ℕ
value_of None = None
value_of (Some port) = Some port.value

-- a place after a word was put to it
abbrev pub after_word : ℕ → Option Plugged → Option Plugged
after_word word None = None
after_word word (Some port) = Some (record { kind = port.kind; value = next_value port.kind port.value word })

-- the places after a word was put to the port p
abbrev pub after_put : Places → ℕ → ℕ → Places
after_put places p word = slice_set places p (after_word word (port_at places p))

-- the places after the port p was unplugged
abbrev pub after_unplug : Places → ℕ → Places
after_unplug places p = slice_set places p None

-- the places after words were put to ports one after another, each put with its port and its word
abbrev pub after_puts : Places → List (ℕ × ℕ) → Places
after_puts places puts = fold (λ before put. after_put before put.0 put.1) places puts

-- the words that were put to the port p, in order
abbrev pub words_to : ℕ → List (ℕ × ℕ) → List ℕ
words_to p puts = map (λ put. put.1) (filter (λ put. put.0 == p) puts)

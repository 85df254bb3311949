-- Made by tools/uniform from proofs.txt, not by hand: 11a46cab28212c9c
use Rattle.layout.specs.TableLaws.{checks}
use Rattle.layout.specs.KeyLaws.{keys_rising}
use borrow.Author.Rules.{rules}
use Rattle.layout.proofs.keys.check.Goals as goal

pub returns-then-not-padding : goal.returns-then-not-padding
returns-then-not-padding c = search (checks, keys_rising, rules)

pub clients_below-requires : goal.clients_below-requires
clients_below-requires c = search (checks, keys_rising, rules)

pub returns-then-not-clients_below : goal.returns-then-not-clients_below
returns-then-not-clients_below c = search (checks, keys_rising, rules)

pub rising-requires : goal.rising-requires
rising-requires c = search (checks, keys_rising, rules)

pub returns : goal.returns
returns c = search (checks, keys_rising, rules)

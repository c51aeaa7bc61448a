use Rattle.std.specs.Prelude.{IsTrue}
use Rattle.std.specs.List.{list_all}
use Rattle.mls_wire.specs.MemLinks.{is_unused}
use Rattle.tests_of_servers.proofs.twelve.sent.Given as goal

abbrev pub invariant-loop-number : goal.invariant-loop-number
invariant-loop-number l = IsTrue (list_all is_unused l.links.items)

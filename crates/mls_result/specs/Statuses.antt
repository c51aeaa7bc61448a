-- The exit numbers of the programs.
use Rattle.std.specs.Prelude.{ℕ}
use Rattle.mls_result.specs.declared.status.Status.{Status}
use Rattle.mls_result.specs.declared.status.Status.TheVariants as status

abbrev pub number_of : Status → ℕ
number_of status.Done = 0
number_of status.Usage = 1
number_of (status.Study fault) = 2
number_of (status.Tape at why) = 3
number_of (status.Schedule line why) = 4
number_of status.ReadFault = 5
number_of status.WriteFault = 6
number_of (status.KeeperFault rank) = 7
number_of (status.CheckpointBad rank at why) = 8
number_of status.Memory = 9
number_of (status.NotBuilt part) = 10
number_of status.DoorFault = 11
number_of (status.TooLong file) = 12
number_of (status.Events line) = 13
number_of status.LinkFault = 14
number_of (status.Refused reason value) = 15
number_of status.Peer = 16
number_of (status.NoGroup group) = 17
number_of status.TooLarge = 18
number_of status.RunnerFault = 19
number_of (status.MarksDiffer other plane group first_has) = 20
number_of (status.OldRanks ranks) = 21

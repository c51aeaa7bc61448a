-- What a turn over all connections of a hub leaves.
use Rattle.std.specs.Prelude.{◌≡◌, ℕ, ◌<◌, List, length, Some, IfSome}
use Rattle.mls_base.specs.declared.outside.Keeper as keeper
use Rattle.mls_model.specs.Numbers.{element}
use Rattle.mls_field.specs.declared.fold.RowFold.{Ghosts}
use Rattle.mls_book.specs.Cores.{parts_bytes}
use Rattle.mls_poll.specs.declared.outside.PollLink as link
use Rattle.mls_hub.specs.declared.connection.Connection.{Connection}
use Rattle.mls_hub.specs.Books.{WireBook}
use Rattle.mls_hub.specs.Halls.{WasPending, EndsAt}

-- the keeper, where it tells, holds the state of the book's core
abbrev pub IsSaved : {F K : Type 0} → Ghosts F → keeper.Ghosts K → WireBook F K → Type 0
IsSaved T W book = IfSome (W.held book.keeper) (λ kept. kept ≡ Some (parts_bytes T book.core))

abbrev pub AreSaved : {F K : Type 0} → Ghosts F → keeper.Ghosts K → List (WireBook F K) → Type 0
AreSaved {F} {K} T W books = (rank : ℕ) (book : WireBook F K) → element books rank ≡ Some book → IsSaved T W book

-- One of the connections was pending in this call.
pub record SomeWaits {L : Type 0} (U : link.Ghosts L) (old new : List (Connection L)) : Type 0 where
  pub i : ℕ
  pub here : i < length new
  pub pending : WasPending U i old new

-- each connection has its end
abbrev pub AllEnded : {L : Type 0} → List (Connection L) → Type 0
AllEnded {L} connections = (i : ℕ) → EndsAt i connections

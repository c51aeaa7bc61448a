-- The line of a connection that was a lane.
use Rattle.std.proofs.Common.{◌≡◌, ℕ, ◌<◌, sym, ap, subst}
use Rattle.mls_model.specs.Studies.{Sizes}
use Rattle.mls_model.specs.declared.lanes.LaneLine.{LaneLine}
use Rattle.mls_wire.specs.declared.greeting.Greeting.{Greeting}
use Rattle.mls_serve.specs.Lanes.{Talking, WelcomesBelow, WasLane, IsServed}
use Rattle.mls_serve.specs.declared.served.Served.{Served}
use Rattle.mls_serve.specs.declared.served.Served.TheVariants as served
use Rattle.mls_serve.proofs.Connections.{greets_below}
use Rattle.mls_server.specs.Lines.{IsLineOf}

was_line : (s : Sizes) (lane : ℕ) (line : LaneLine) (old new : Talking) → WasLane line s lane old new → IsLineOf s.ranks lane line
was_line s lane line old new was =
    let below : was.rank < s.ranks = subst (λ (g : Greeting). WelcomesBelow g s.ranks) was.welcomed (greets_below s was.frame) in
    record {
      own = ap (λ (l : LaneLine). l.lane) was.is_line;
      client = ap (λ (l : LaneLine). l.kind) was.is_line;
      rank_in = subst (λ n. n < s.ranks) (sym (ap (λ (l : LaneLine). l.rank) was.is_line)) below;
    }

pub line_of : (s own : Sizes) (lane : ℕ) (answer : Served) (line : LaneLine) (old new : Talking) → s ≡ own → answer ≡ served.Lane line → IsServed answer s lane old new → IsLineOf own.ranks lane line
line_of s own lane answer line old new same is was = subst (λ (t : Sizes). IsLineOf t.ranks lane line) same (was_line s lane line old new (subst (λ (a : Served). IsServed a s lane old new) is was))

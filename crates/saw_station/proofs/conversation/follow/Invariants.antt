use Rattle.std.proofs.Common.{◌≡◌, ◌≤◌, ◌-◌, true}
use Rattle.saw_context.specs.Outcome.{max_requests}
use Rattle.saw_station.specs.TalkSteps.{MayFollow}
use Rattle.saw_station.proofs.Talks.{IsSoFar}
use Rattle.saw_station.proofs.conversation.follow.Given as goal

abbrev pub invariant-requests : goal.invariant-requests
invariant-requests g l = record {
  begun : g.S.Station.begun l.station ≡ true;
  offers : g.S.Station.offered l.station ≡ g.S.Station.offered l.fn.station;
  later : g.S.Station.faults l.fn.station ≤ g.S.Station.faults l.station;
  follows : MayFollow (g.S.Station.last l.station) l.tx l.talk.turns;
  so_far : IsSoFar g.S.Station.tells (g.S.Station.next l.tx) l.tx.header l.fn.context.base l.fn.context.layers
      (max_requests - l.counter) l.talk.turns l.context;
}

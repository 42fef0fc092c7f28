-- What readers are told beside a run.
use Rattle.std.specs.Prelude.{◌≡◌, ◌⊎◌, ◌<◌, ◌≤◌, ℕ, true, List, [], ◌∷◌, length, slice_index_or, Option}
use Rattle.std.specs.FinMap as finite
use Rattle.std.specs.List.{AllByRecursion}
use Rattle.saw_address.specs.Maps.{no_entries}
use Rattle.saw_faults.specs.Counts.{Rose}
use Rattle.saw_io.specs.declared.source.Source as source
use Rattle.saw_io.specs.declared.sink.Sink as sink
use Rattle.saw_live.specs.Heads.{StartsWith}
use Rattle.saw_live.specs.Passes.{IsKnownIn, history, publishes}
use Rattle.saw_live.specs.Serving.{IsServed, IsServedUntil, Moment, moment}
use Rattle.saw_live.specs.Words.{Head}
use Rattle.saw_live.specs.declared.pass.LivePass.{LivePass}
use Rattle.saw_live.specs.declared.reader.ReaderEnd.{ReaderEnd}
use Rattle.saw_live.specs.declared.reader.ReaderEnd.TheVariants.{Open, Served, Ended}
use Rattle.saw_live.specs.declared.reader.ReaderFault.{ReaderFault}
use Rattle.saw_live.specs.declared.reader.ReaderFault.TheVariants.{Failed}
use Rattle.saw_merkle.specs.States.{knows}
use Rattle.saw_node.specs.Hashes.{first_half}

-- new passes, where no head is shown yet: the one that publishes, which is known to the state of nothing, and those of
-- readers
pub record AreNew (Leads : LivePass → Type 0) (first : LivePass) (passes : List LivePass) : Type 0 where
  pub leads : Leads first
  pub may : publishes first ≡ true
  pub none : history first ≡ []
  pub known : IsKnownIn (knows first_half finite.empty no_entries) first
  pub lead : AllByRecursion Leads passes
  pub fresh : AllByRecursion (λ pass. history pass ≡ []) passes

-- a reader: what is unread of its source, what was written to its sink, how often each has failed, and how its serving
-- ended
pub record Asker : Type 0 where
  pub unread : Option (List ℕ)
  pub written : Option (List ℕ)
  pub source_faults : ℕ
  pub sink_faults : ℕ
  pub end : ReaderEnd

abbrev pub asker : {A K : Type 0} → source.Ghosts A → sink.Ghosts K → A → K → ReaderEnd → Asker
asker a k from to ended = record {
  unread = a.unread from;
  written = k.written to;
  source_faults = a.faults from;
  sink_faults = k.faults to;
  end = ended;
}

abbrev pub moment_of : Asker → List Head → Moment
moment_of one seen = moment one.unread one.written seen

-- a source or a sink fails only where that is counted
abbrev pub IsCounted : Asker → Asker → ReaderFault → Type 0
IsCounted old new fault =
    fault ≡ Failed → Rose old.source_faults new.source_faults ⊎ Rose old.sink_faults new.sink_faults

-- counts do not fall
abbrev pub IsLater : Asker → Asker → Type 0
IsLater old new = (old.source_faults ≤ new.source_faults) × (old.sink_faults ≤ new.sink_faults)

-- it was served, and saw these heads, from none on
abbrev pub EndsAs : Asker → Asker → List Head → ReaderEnd → Type 0
EndsAs old new seen Open = ⊥
EndsAs old new seen (Served answers) = IsServed first_half (moment_of old []) (moment_of new seen) answers × IsLater old new
EndsAs old new seen (Ended fault) =
    IsServedUntil first_half (moment_of old []) (moment_of new seen) fault × IsCounted old new fault × IsLater old new

-- so each of several
pub record AllEnd {G : Type 0} (of : G → Asker) (seen : G → List Head) (olds news : List G) : Type 0 where
  pub each : (i : ℕ) (d : G) → i < length olds → EndsAs (of (slice_index_or olds i d)) (of (slice_index_or news i d))
      (seen (slice_index_or news i d)) (of (slice_index_or news i d)).end

-- what it saw are the first of all heads
abbrev pub IsAnsweredBy : List Head → Asker → Asker → Type 0
IsAnsweredBy heads old new = (seen : List Head) × StartsWith heads seen × EndsAs old new seen new.end

-- each was served, in order
abbrev pub AreAnsweredBy : List Head → List Asker → List Asker → Type 0
AreAnsweredBy heads [] [] = Unit {0}
AreAnsweredBy heads [] (new ∷ news) = ⊥
AreAnsweredBy heads (old ∷ olds) [] = ⊥
AreAnsweredBy heads (old ∷ olds) (new ∷ news) = IsAnsweredBy heads old new × AreAnsweredBy heads olds news

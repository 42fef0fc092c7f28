-- What a run is given besides its words and its stream, and how batches are run.
use Rattle.std.specs.Prelude.{◌≡◌, ℕ, Bool, true, List, [], ◌∷◌}
use Rattle.saw_context.specs.Outcome.{Processors}
use Rattle.saw_context.specs.Serial.{serial}
use Rattle.saw_io.specs.Shelf.{Files}
use Rattle.saw_journal.specs.Judgement.{Rules, rules_by}
use Rattle.saw_node.specs.Hashes.{first_half}
use Rattle.saw_publish.specs.Candidates.{Signing}
use Rattle.saw_receipts.specs.Running.{Runs, RunsBy}
use Rattle.saw_rules.specs.OnChainRules.{on_chain}
use Rattle.saw_rules.specs.Policies.{Policy}
use Rattle.saw_identity.specs.Permissions.{both, permissions}
use Rattle.saw_identity.specs.Stations.{identity_offers, with_identity}
use Rattle.saw_messages.specs.TxShapes.{TxShape}
use Rattle.saw_messages.specs.declared.outcome.Reason.TheVariants.{Remote}
use Rattle.saw_messages.specs.declared.talk.Action.{Action}
use Rattle.saw_messages.specs.declared.talk.Action.TheVariants as actions
use Rattle.saw_messages.specs.declared.talk.Turn.{Turn}
use Rattle.saw_station.specs.CommonOffers.{common}
use Rattle.saw_station.specs.Serving.{processors_at}
use Rattle.saw_station.specs.declared.offer.Offer.{Offer}

-- who vouches for signatures
abbrev pub Accepts : Type 0
Accepts = List ℕ → List ℕ → List ℕ → Bool

-- who vouches and who signs, what transactions are answered by, and the files
pub record World : Type 0 where
  pub accepts : Accepts
  pub signing : Signing
  pub processors : Processors
  pub files : Files

-- the same, whatever the files are
abbrev pub world_with : Accepts → Signing → Processors → Files → World
world_with accepts signing processors files =
    record { accepts = accepts; signing = signing; processors = processors; files = files }

-- How batches are run: those of the block at each place of a stream, and those of a candidate behind it. Where an
-- external processor does not tell its actions, each time they are run is a way of its own.
pub record Ways : Type 0 where
  pub blocks : ℕ → Runs
  pub candidate : Runs

-- what each gives is what may come of batches, run one after another
pub record AreWays (processors : Processors) (ways : Ways) : Type 0 where
  pub blocks : (place : ℕ) → RunsBy processors (ways.blocks place)
  pub candidate : RunsBy processors ways.candidate

-- one after another, by the actions that the processors tell
abbrev pub serially : Processors → Ways
serially processors = record {
  blocks = λ place m batches. serial processors m batches;
  candidate = λ m batches. serial processors m batches;
}

-- by what the blocks of a stream are judged: who vouches for signatures, and how the batches of each are run
pub record Judging : Type 0 where
  pub accepts : Accepts
  pub ways : ℕ → Runs

abbrev pub judging_by : Accepts → Ways → Judging
judging_by accepts ways = record { accepts = accepts; ways = ways.blocks }

-- what judges blocks by the state of their parent: the settings on families and blocks, and then the permissions
unfoldable pub governed : Policy
governed = both on_chain permissions

-- rules with it
abbrev pub rules_with : (List ℕ → List ℕ) → Accepts → Runs → Rules
rules_with hash accepts runs = rules_by hash accepts governed runs

-- the rules for the block at a place
abbrev pub rules_at : Judging → ℕ → Rules
rules_at judging place = rules_with first_half judging.accepts (judging.ways place)

-- processors of which each is deterministic
abbrev pub TellsAll : Processors → Type 0
TellsAll processors = (family version : List ℕ) → processors.tells family version ≡ true

-- ---- who answers transactions

-- The built-in families, the identity family, and besides what stations all offer. Where those are not deterministic,
-- the actions of the identity family beside them count as not told, too.
abbrev pub processors_beside : (TxShape → List Turn → Action) → Bool → List (List Offer) → Processors
processors_beside next tells offers = processors_at (with_identity next) tells (identity_offers (common offers))

-- without external processors
abbrev pub processors_alone : Processors
processors_alone = processors_beside (λ tx turns. actions.Invalid Remote) true []

-- with external processors that offer these, if there are any
abbrev pub processors_with : (TxShape → List Turn → Action) → Bool → List (List Offer) → Processors
processors_with next tells [] = processors_alone
processors_with next tells (first ∷ others) = processors_beside next tells (first ∷ others)

-- What judging a vouched stream comes to.
use Rattle.std.proofs.Common.{◌≡◌, ◌<◌, ◌≤◌, ◌+◌, ◌==◌, ℕ, zero, suc, true, false, List, [], ◌∷◌, ◌++◌, length, map, Option, None}
use Rattle.std.proofs.Common.{refl, sym, ap, subst, ◌∙◌, arith}
use Rattle.std.specs.Prelude.{if◌then◌else◌, option_map}
use Rattle.std.specs.List.{AllByRecursion, range_with_len}
use Rattle.std.proofs.lemmas.Bool.{cond-false, ne_eqb}
use Rattle.std.proofs.lemmas.List.Folds.{flat_map-map}
use Rattle.std.proofs.lemmas.List.FromFn.{length-map-range_with_len}
use Rattle.saw_context.proofs.Each.{all_map}
use Rattle.saw_generate.proofs.Places.{all_places}
use Rattle.saw_generate.proofs.WholeBlocks.{content_small}
use Rattle.saw_generate.specs.Streams.{content_at, stream}
use Rattle.saw_generate.specs.declared.wish.GenerateWish.{GenerateWish}
use Rattle.saw_io.specs.Frame.{frame}
use Rattle.saw_journal.specs.Judgement.{Kept, Rules}
use Rattle.saw_node.specs.Hashes.{first_half}
use Rattle.saw_publish.specs.Candidates.{Signing}
use Rattle.saw_receipts.specs.Heads.{as_parent, head_of}
use Rattle.saw_receipts.specs.declared.verdict.Verdict.TheVariants.{Committed, Stored}
use Rattle.saw_report.specs.declared.run_fault.RunFault.{RunFault}
use Rattle.saw_top.specs.GeneratedLaws.{GeneratedStreamIsCommitted, IsCommitted, IsVouchedFor, alone_by, places}
use Rattle.saw_top.specs.History.{History, Said, accepted_as, before, ended, goes_on, history, judged_behind, map_behind, records_of, some_refused}
use Rattle.saw_top.specs.Limits.{max_blocks, max_length}
use Rattle.saw_top.specs.Run.{end_by, fault_in, head_map, history_of, status_by}
use Rattle.saw_top.specs.Stream.{Stream, stream_of}
use Rattle.saw_top.specs.World.{Accepts, Judging, processors_alone, rules_with, serially}
use Rattle.saw_top.specs.declared.task.Ending.TheVariants.{Head}
use Rattle.saw_top.proofs.Frames.{frames_are_read}
use Rattle.saw_top.proofs.GeneratedBlocks.{IsBehind, accepted_after, all_behind, judged_at, kept_at, new_head}
use Rattle.saw_top.proofs.GeneratedSigned.{block_signed}

-- what is said of a block is that it is committed
abbrev IsCommittedOne : Said → Type 0
IsCommittedOne said = said.verdict ≡ Committed

-- where all are committed none is refused
none_refused : (saids : List Said) → AllByRecursion IsCommittedOne saids → some_refused saids ≡ false
none_refused [] all = refl
none_refused (said ∷ saids) all = rw all.0 (none_refused saids all.1)

module _ (accepts : Accepts) (signing : Signing) (wish : GenerateWish) (few : wish.blocks ≤ 1000) (narrow : wish.batches ≤ 5000)
    (vouched : IsVouchedFor signing wish accepts) where
  abbrev judging : Judging
  judging = alone_by accepts

  abbrev rules : Rules
  rules = rules_with first_half accepts (serially processors_alone).candidate

  -- the accepted blocks behind so many, and what is kept of the next one
  abbrev accepted : ℕ → List Kept
  accepted b = accepted_after accepts signing wish b

  abbrev next : ℕ → Kept
  next b = kept_at accepts signing wish b

  behind : (b : ℕ) → b ≤ wish.blocks → IsBehind accepts signing wish b
  behind b low = all_behind accepts signing wish few narrow vouched b low

  -- a run that commits so many blocks behind others
  record Commits (b count : ℕ) (run : History) : Type 0 where
    said : AllByRecursion IsCommittedOne run.said
    judged : length run.said ≡ count
    accepted_is : run.accepted ≡ accepted (b + count)
    room : run.is_full ≡ false

  module _ (b count : ℕ) (low : b < wish.blocks) where
    -- one more finds room
    has_room : (length (accepted b) == max_blocks) ≡ false
    has_room =
        let is = behind b (omega (arith, low)) in
        ne_eqb (length (accepted b)) max_blocks (λ same. omega (arith, same, is.count, low, few))

    -- the next block is committed before others that are
    one_commits : (others : History) → Commits (suc b) count others → Commits b (suc count) (before (accepted_as (accepted b) (next b)) others)
    one_commits others rest =
        let head = new_head accepts signing wish few narrow vouched b low (behind b (omega (arith, low))) in
        let last : suc b + count ≡ b + suc count = omega arith in
        record {
          said = (ap (λ head. if head then Committed else Stored) head, rest.said);
          judged = omega (arith, rest.judged);
          accepted_is = rest.accepted_is ∙ ap accepted last;
          room = rest.room;
        }

    -- and so its judgement goes on
    goes_on_committed : (others : List Kept → History) → Commits (suc b) count (others (accepted (suc b)))
        → Commits b (suc count) (goes_on others (accepted b) (judged_behind judging b (accepted b) (content_at signing wish b)))
    unfolding accepted_after
    goes_on_committed others rest =
        let one = before (accepted_as (accepted b) (next b)) (others (accepted b ++ next b ∷ [])) in
        let judged = judged_at accepts signing wish few narrow vouched b low (behind b (omega (arith, low))) in
        subst (Commits b (suc count))
        (sym (ap (goes_on others (accepted b)) judged ∙ cond-false (length (accepted b) == max_blocks) (ended (accepted b) true) one has_room))
        (one_commits (others (accepted b ++ next b ∷ [])) rest)

  -- so many blocks, from one on
  all_commit : (count b : ℕ) → b + count ≤ wish.blocks
      → Commits b count (history judging b (map (content_at signing wish) (range_with_len b count)) (accepted b))
  unfolding history
  all_commit zero b low =
      let same : b ≡ b + 0 = omega arith in
      record { said = tt; judged = refl; accepted_is = ap accepted same; room = refl }
  all_commit (suc count) b low =
      let more : b + 1 ≡ suc b = omega arith in
      goes_on_committed b count (omega (arith, low)) (history judging (b + 1) (map (content_at signing wish) (range_with_len (b + 1) count)))
      (subst (λ n. Commits (suc b) count (history judging n (map (content_at signing wish) (range_with_len n count)) (accepted (suc b)))) (sym more)
      (all_commit count (suc b) (omega (arith, low))))

  -- ---- the stream

  abbrev contents : List (List ℕ)
  contents = map (content_at signing wish) (places signing wish)

  -- its frames are the blocks
  read : stream_of (stream signing wish) ≡ record { frames = map (content_at signing wish) (places signing wish); fault = None }
  read =
      ap stream_of (sym (flat_map-map frame (content_at signing wish) (places signing wish)))
      ∙ frames_are_read contents
      (all_map (content_at signing wish) (λ content. length content ≤ max_length) (places signing wish)
      (all_places (λ b. length (content_at signing wish b) ≤ max_length) wish.blocks (λ b low.
      content_small signing wish vouched.key few narrow accepts (block_signed accepts signing wish vouched) b low)))
      (omega (arith, length-map-range_with_len (content_at signing wish) 0 wish.blocks, few))

  -- what they come to
  abbrev run : History
  run = history_of (alone_by accepts) (map (content_at signing wish) (places signing wish))

  commits : Commits 0 wish.blocks run
  unfolding accepted_after
  commits = all_commit wish.blocks 0 (omega arith)

  -- what is accepted in the end
  all_accepted : run.accepted ≡ accepted wish.blocks
  all_accepted = let same : 0 + wish.blocks ≡ wish.blocks = omega arith in commits.accepted_is ∙ ap accepted same

  no_fault : fault_in run None ≡ None
  no_fault = rw commits.room refl

  committed : IsCommitted signing wish accepts
  committed =
      let last = behind wish.blocks (omega arith) in
      record {
        frames = ap (λ (s : Stream). s.frames) read;
        fault = ap (λ (s : Stream). fault_in (history_of judging s.frames) s.fault) read ∙ no_fault;
        said = subst (λ (s : Stream). AllByRecursion IsCommittedOne (history_of judging s.frames).said) (sym read) commits.said;
        judged = ap (λ (s : Stream). length (history_of judging s.frames).said) read ∙ commits.judged;
        head = ap (λ (s : Stream). option_map as_parent (head_of (records_of (history_of judging s.frames).accepted))) read
            ∙ ap (λ (accepted : List Kept). option_map as_parent (head_of (records_of accepted))) all_accepted ∙ last.parent;
        left = ap (λ (s : Stream). head_map (history_of judging s.frames)) read
            ∙ ap (λ (accepted : List Kept). map_behind accepted (head_of (records_of accepted))) all_accepted
            ∙ last.left;
        status = λ waiting.
            ap (λ (s : Stream). (end_by rules waiting Head (history_of judging s.frames) (fault_in (history_of judging s.frames) s.fault)).status) read
            ∙ ap (λ (fault : Option RunFault). (end_by rules waiting Head run fault).status) no_fault
            ∙ ap status_by (none_refused run.said commits.said);
      }

-- a generated stream is committed by whoever accepts its signatures
pub generated_committed : GeneratedStreamIsCommitted
generated_committed accepts signing wish few narrow vouched = committed accepts signing wish few narrow vouched

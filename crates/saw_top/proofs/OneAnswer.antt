-- Where all is told, all ways to run batches give one answer.
use Rattle.std.proofs.Common.{◌≡◌, ◌+◌, ◌++◌, ℕ, true, List, [], length, take, Option, Some, None, Result, Ok, Err, refl, ap, subst, ◌∙◌}
use Rattle.std.specs.Prelude.{IfSome}
use Rattle.std.proofs.Math.Path.{fun_ext}
use Rattle.std.specs.List.{list_all}
use Rattle.saw_address.specs.Maps.{StateMap}
use Rattle.saw_context.specs.Outcome.{Processors}
use Rattle.saw_journal.specs.Judgement.{Rules}
use Rattle.saw_journal.proofs.Told.{judged_told, left_told}
use Rattle.saw_node.specs.Hashes.{first_half}
use Rattle.saw_publish.proofs.Told.{draft_told}
use Rattle.saw_receipts.specs.Branches.{ids_in}
use Rattle.saw_receipts.specs.Heads.{head_branch, head_of}
use Rattle.saw_report.specs.declared.run_fault.RunFault.{RunFault}
use Rattle.saw_top.specs.World.{governed}
use Rattle.saw_top.specs.Answers.{Prepared, answer_for}
use Rattle.saw_top.specs.Headline.{WritesAnswer, WritesAnswerOf, TellsFirst}
use Rattle.saw_top.specs.History.{History, history, map_behind, maps_of, records_of, some_refused, tried}
use Rattle.saw_top.specs.Outside.{Outside, sides_of}
use Rattle.saw_top.specs.Publishing.{Publication, Waiting, candidate_status, candidate_text, losses_text, map_left, parent_at, publication_by}
use Rattle.saw_top.specs.Run.{Answer, AtEnd, end_by, fault_in, noted_by, run_to, task_answer, written_by}
use Rattle.saw_top.specs.Stream.{stream_of}
use Rattle.saw_receipts.specs.Telling.{tell_batches, tell_block}
use Rattle.saw_top.specs.Telling.{IsTold, tell_stream}
use Rattle.saw_top.specs.World.{Accepts, AreWays, Judging, Ways, judging_by, rules_with, serially}
use Rattle.saw_top.specs.declared.task.Ending.{Ending}
use Rattle.saw_top.specs.declared.task.Ending.TheVariants.{Batch, Candidate, Events, Head, Entries, Proof, Receipts}
use Rattle.saw_top.specs.declared.task.Task.{Task}
use Rattle.saw_top.proofs.Histories.{history_same, tried_same}
use Rattle.saw_top.proofs.Elements.{all_at, all_first}

-- an answer by what its blocks come to, its end, the maps that they would leave, and what the first of them come to
abbrev answer_from : Task → Option RunFault → History → AtEnd → List (Option StateMap) → (ℕ → History) → Answer
answer_from task fault run end tries to = record {
  output = written_by task.lines run ++ end.output;
  noted = noted_by task.lines run ++ end.noted;
  fault = fault_in run fault;
  status = end.status;
  tried = tries;
  made = end.made;
  judged = length run.said;
  output_for = λ count. written_by task.lines (to count);
  noted_for = λ count. noted_by task.lines (to count);
  maps_for = λ count. maps_of (to count).accepted;
}

module _ (processors : Processors) (ways : Ways) (may : AreWays processors ways) (accepts : Accepts) where
  abbrev judging : Judging
  judging = judging_by accepts ways

  abbrev one_by_one : Judging
  one_by_one = judging_by accepts (serially processors)

  abbrev last : Rules
  last = rules_with first_half accepts ways.candidate

  abbrev last_serial : Rules
  last_serial = rules_with first_half accepts (serially processors).candidate

  pub history_told : (frames : List (List ℕ)) → list_all (tell_block processors) frames ≡ true
      → history judging 0 frames [] ≡ history one_by_one 0 frames []
  history_told frames told =
      history_same accepts ways.blocks (serially processors).blocks frames 0
      (λ n content is below kepts. judged_told processors (ways.blocks (0 + n)) (may.blocks (0 + n)) first_half accepts governed (map_behind kepts) (records_of kepts) content
      (all_at (tell_block processors) frames n content told is)) []

  tried_told : (frames : List (List ℕ)) → list_all (tell_block processors) frames ≡ true
      → tried judging 0 frames [] ≡ tried one_by_one 0 frames []
  tried_told frames told =
      tried_same accepts ways.blocks (serially processors).blocks frames 0
      (λ n content is below kepts. judged_told processors (ways.blocks (0 + n)) (may.blocks (0 + n)) first_half accepts governed (map_behind kepts) (records_of kepts) content
      (all_at (tell_block processors) frames n content told is))
      (λ n content is kepts. left_told processors (ways.blocks (0 + n)) (may.blocks (0 + n)) first_half accepts governed (map_behind kepts) (records_of kepts) content
      (all_at (tell_block processors) frames n content told is)) []

  module _ (waiting : Waiting) (told : tell_batches processors waiting.batches ≡ true) where
    end_told : (ending : Ending) (run : History) (fault : Option RunFault) → end_by last waiting ending run fault ≡ end_by last_serial waiting ending run fault
    end_told ending run (Some fault) = refl
    end_told Head run None = refl
    end_told (Entries prefix) run None = refl
    end_told Receipts run None = refl
    end_told (Batch id) run None = refl
    end_told (Proof at) run None = refl
    end_told (Events known wish) run None = refl
    end_told Candidate run None =
        let blocks = records_of run.accepted in
        let before = map_behind run.accepted (head_of blocks) in
        ap (λ (made : Publication). record {
          output = candidate_text first_half waiting.signing (parent_at blocks) made;
          noted = losses_text made;
          status = candidate_status (some_refused run.said) made;
          made = map_left made;
        }) (ap (publication_by last waiting.signing.key before)
        (draft_told processors ways.candidate may.candidate accepts governed waiting.signing.key before (ids_in (head_branch blocks)) waiting.batches told))

    answer_told : (task : Task) (bytes : List ℕ) → tell_stream processors bytes ≡ true
        → task_answer judging last waiting task bytes ≡ task_answer one_by_one last_serial waiting task bytes
    answer_told task bytes all =
        let frames = (stream_of bytes).frames in
        let fault = (stream_of bytes).fault in
        let end : History → AtEnd = λ run. end_by last waiting task.ending run (fault_in run fault) in
        let run : History = history one_by_one 0 frames [] in
        let to : run_to judging bytes ≡ run_to one_by_one bytes =
        fun_ext (λ count. history_told (take count frames) (all_first (tell_block processors) count frames all)) in
        ap (λ (run : History). answer_from task fault run (end run) (tried judging 0 frames []) (run_to judging bytes)) (history_told frames all)
        ∙ ap (λ (e : AtEnd). answer_from task fault run e (tried judging 0 frames []) (run_to judging bytes))
        (end_told task.ending run (fault_in run fault))
        ∙ ap (λ (tries : List (Option StateMap)). answer_from task fault run (end_by last_serial waiting task.ending run (fault_in run fault)) tries (run_to judging bytes))
        (tried_told frames all)
        ∙ ap (answer_from task fault run (end_by last_serial waiting task.ending run (fault_in run fault)) (tried one_by_one 0 frames [])) to

module _ (processors : Processors) (ways : Ways) (may : AreWays processors ways) where
  pub one_answer : (task : Task) (ready : Result Prepared RunFault) (bytes : List ℕ) → IsTold processors ready bytes
      → answer_for ways task ready bytes ≡ answer_for (serially processors) task ready bytes
  one_answer task (Err fault) bytes told = refl
  one_answer task (Ok made) bytes told = answer_told processors ways may made.accepts made.waiting told.1 task bytes told.0

  -- so what is shown of one is shown of that of batches that are run one after another
  pub shows_told : (task : Task) (ready : Result Prepared RunFault) (before after : Outside) (came : Result ℕ RunFault) (first : Option (List ℕ))
      → IfSome first (WritesAnswerOf processors task ready before after came ways)
      → IfSome first (λ bytes. IsTold processors ready bytes → WritesAnswerOf processors task ready before after came (serially processors) bytes)
  shows_told task ready before after came None shows = tt
  shows_told task ready before after came (Some bytes) shows = λ told.
      subst (λ (answer : Answer). WritesAnswer answer bytes after.input.tells (sides_of before after) came
      × TellsFirst task.lines answer.noted (sides_of before after)) (one_answer task ready bytes told) shows

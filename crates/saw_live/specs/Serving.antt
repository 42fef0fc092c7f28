-- What a reader asks, and what it is told.
use Rattle.std.specs.Prelude.{◌≡◌, ◌⊎◌, ◌<◌, ◌≤◌, ℕ, Bool, true, false, List, [], ◌∷◌, ◌++◌, length, take, codes, Option, Some, None, IfSome, Result, Ok, Err}
use Rattle.std.specs.Fmt.{decimal}
use Rattle.std.specs.Io.KnownBytes.{Appends, IsAtEnd}
use Rattle.std.specs.List.{flat_map}
use Rattle.hex.specs.Hex.{decode_of, encode_lower}
use Rattle.hex.specs.declared.error.FromHexError.{FromHexError}
use Rattle.saw_address.specs.Texts.{is_address_text}
use Rattle.saw_io.specs.Frame.{frame, frame_at}
use Rattle.saw_io.specs.declared.fault.FrameFault.TheVariants.{Truncated, TooLong}
use Rattle.saw_live.specs.Heads.{StartsWith}
use Rattle.saw_live.specs.Replies.{Tells}
use Rattle.saw_live.specs.Words.{Head}
use Rattle.saw_live.specs.declared.reader.ReaderFault.{ReaderFault}
use Rattle.saw_live.specs.declared.reader.ReaderFault.TheVariants as readers
use Rattle.saw_live.specs.declared.reply.LiveReply.{LiveReply}
use Rattle.saw_live.specs.declared.reply.LiveReply.TheVariants.{NoHead, At}

-- the longest frame that is read: the digits of an address
abbrev pub max_question : ℕ
max_question = 70

-- how many answers one reader gets
abbrev pub max_answers : ℕ
max_answers = 1000000

-- ---- answers

abbrev pub value_text : Option (List ℕ) → List ℕ
value_text (Some value) = encode_lower value
value_text None = codes "-"

abbrev pub reply_text : LiveReply → List ℕ
reply_text NoHead = codes "none"
reply_text (At number id root value) =
    decimal number ++ codes " " ++ id ++ codes " " ++ encode_lower root ++ codes " " ++ value_text value

-- the bytes of digits, where they are digits
abbrev pub bytes_in : Result (List ℕ) FromHexError → List ℕ
bytes_in (Ok bytes) = bytes
bytes_in (Err fault) = []

-- a reader at one moment: what is unread of its source, what was written to its sink, and the heads that its pass has
-- seen
pub record Moment : Type 0 where
  pub unread : Option (List ℕ)
  pub written : Option (List ℕ)
  pub heads : List Head

abbrev pub moment : Option (List ℕ) → Option (List ℕ) → List Head → Moment
moment unread written heads = record { unread = unread; written = written; heads = heads }

module _ (hash : List ℕ → List ℕ) where
  -- A question is answered by the text of a reply, for which more heads may be seen than before; another frame is
  -- refused.
  abbrev pub IsAnswerBy : Bool → List Head → List Head → List ℕ → List ℕ → Type 0
  IsAnswerBy true before after question text =
      (reply : LiveReply) × Tells hash (bytes_in (decode_of question)) after reply × StartsWith after before × (text ≡ reply_text reply)
  IsAnswerBy false before after question text = (text ≡ codes "refused") × (after ≡ before)

  abbrev pub IsAnswer : List Head → List Head → List ℕ → List ℕ → Type 0
  IsAnswer before after question text = IsAnswerBy (is_address_text question) before after question text

  -- each frame has its answer, in order
  abbrev pub AreAnswers : List Head → List Head → List (List ℕ) → List (List ℕ) → Type 0
  AreAnswers before after [] [] = after ≡ before
  AreAnswers before after [] (text ∷ texts) = ⊥
  AreAnswers before after (question ∷ questions) [] = ⊥
  AreAnswers before after (question ∷ questions) (text ∷ texts) =
      (between : List Head) × IsAnswer before between question text × AreAnswers between after questions texts

  -- these frames were read one after another; of bytes that are not known nothing is known
  abbrev pub Reads : List (List ℕ) → Option (List ℕ) → Option (List ℕ) → Type 0
  Reads questions None new = Unit {0}
  Reads [] (Some bytes) new = new ≡ Some bytes
  Reads (question ∷ questions) (Some bytes) new =
      (rest : List ℕ) × (frame_at max_question bytes ≡ Ok (Some question, rest)) × Reads questions (Some rest) new

  -- these frames were read, and these answers written, one for each
  pub record Serves (old new : Moment) (questions texts : List (List ℕ)) : Type 0 where
    pub reads : Reads questions old.unread new.unread
    pub answers : AreAnswers old.heads new.heads questions texts
    pub writes : Appends old.written new.written (flat_map frame texts)

  -- one more frame was answered, or there is none
  abbrev pub ServesNext : Moment → Moment → Bool → Type 0
  ServesNext old new true = (question : List ℕ) × (text : List ℕ) × Serves old new (question ∷ []) (text ∷ [])
  ServesNext old new false = IfSome old.unread (λ bytes. bytes ≡ []) × Serves old new [] []

  -- it was served to the end of its source, or as often as one reader is
  pub record IsServed (old new : Moment) (count : ℕ) : Type 0 where
    pub questions : List (List ℕ)
    pub texts : List (List ℕ)
    pub serves : Serves old new questions texts
    pub count_is : count ≡ length questions
    pub few : count ≤ max_answers
    pub done : IfSome old.unread (λ bytes. IsAtEnd new.unread) ⊎ (count ≡ max_answers)

  -- nothing was written; or one more question was read, and its answer written in part
  abbrev pub Stops : Moment → Moment → Type 0
  Stops old new =
      ((new.written ≡ old.written) × StartsWith new.heads old.heads)
      ⊎ ((question : List ℕ) × (text : List ℕ) × Reads (question ∷ []) old.unread new.unread
      × IsAnswer old.heads new.heads question text
      × ((n : ℕ) × (n < length (frame text)) × Appends old.written new.written (take n (frame text))))

  -- A fault of the bytes is the one that they have, and nothing was written. Else it is as `Stops` says.
  abbrev pub IsFault : Moment → Moment → ReaderFault → Type 0
  IsFault old new readers.Cut =
      IfSome old.unread (λ bytes. (have : ℕ) × (want : ℕ) × (frame_at max_question bytes ≡ Err (Truncated have want)))
      × IsAtEnd new.unread × (new.written ≡ old.written) × (new.heads ≡ old.heads)
  IsFault old new (readers.TooLong n) =
      IfSome old.unread (λ bytes. frame_at max_question bytes ≡ Err (TooLong n)) × (new.written ≡ old.written) × (new.heads ≡ old.heads)
  IsFault old new readers.Failed = Stops old new
  IsFault old new readers.OutOfMemory = Stops old new

  -- it was served up to a fault
  pub record IsServedUntil (old new : Moment) (fault : ReaderFault) : Type 0 where
    pub questions : List (List ℕ)
    pub texts : List (List ℕ)
    pub few : length questions < max_answers
    pub between : Moment
    pub serves : Serves old between questions texts
    pub fault_is : IsFault between new fault

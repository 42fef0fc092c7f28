-- What a view says of a read.
use Rattle.std.proofs.Common.{◌≡◌, ℕ, false, ◌&&◌, ◌==◌, Option, Some, None, is_none, refl}
use Rattle.std.specs.Str.{bytes_eq}
use Rattle.saw_context.specs.Conversation.{body_of}
use Rattle.saw_context.specs.declared.reads.Origin.TheVariants.{Layer, Base}
use Rattle.saw_context.specs.declared.reads.Read.{Read}
use Rattle.saw_context.specs.declared.view.ViewEntry.{ViewEntry}
use Rattle.saw_machine.specs.Machine.{View}
use Rattle.saw_schedule.specs.Agreement.{is_seen, is_seen_as}

module _ (view : View) (read : Read) where
  pub seen-layer : (index : ℕ) (entry : ViewEntry) → read.from ≡ Layer index → Some entry ≡ view read.address
      → (entry.index == index && bytes_eq (body_of entry.value) read.body) ≡ is_seen view read
  seen-layer index entry from found = rw (from, ← found) refl

  pub unseen-layer : (index : ℕ) → read.from ≡ Layer index → None ≡ view read.address → false ≡ is_seen view read
  unseen-layer index from found = rw (from, ← found) refl

  pub seen-base : (entry : Option ViewEntry) → read.from ≡ Base → entry ≡ view read.address → is_none entry ≡ is_seen view read
  seen-base entry from found = rw (from, ← found) (go entry)
    where
      go : (entry : Option ViewEntry) → is_none entry ≡ is_seen_as entry Base read.body
      go None = refl
      go (Some entry) = refl

-- Words without readers open no door for them.
use Rattle.std.proofs.Common.{ℕ, Bool, true, false, List, [], ◌∷◌, Option, Some, None, option_map, unwrap_or, cond}
use Rattle.saw_words.specs.Given.{Given, are_of, given_in, value_of}
use Rattle.saw_top.specs.Command.{Asked, Judge, Generate, Check, Values, asked_by}
use Rattle.saw_top.specs.Numbers.{required}
use Rattle.saw_top.specs.Opening.{HasFewReaders, by_listening, by_port, listened_by, listening_by, opened_alone, opened_by, opened_with}
use Rattle.saw_top.specs.Table.{connect, kind_of, options_of}
use Rattle.saw_top.specs.declared.listening.Listening.{Listening}
use Rattle.saw_top.specs.declared.opening.Wish.TheVariants.{Plain}
use Rattle.saw_top.specs.declared.table.Kind.{Kind}
use Rattle.saw_top.specs.declared.table.Kind.TheVariants as kinds

few_listening : (at : Option (Option Listening)) → HasFewReaders (by_listening at)
few_listening None = tt
few_listening (Some None) = tt
few_listening (Some (Some at)) = tt

few_port : (port : Option ℕ) → HasFewReaders (by_port port)
few_port None = tt
few_port (Some port) = tt

few_asked : (asked : Option Asked) (value : Values) → HasFewReaders (listened_by asked value)
few_asked None value = tt
few_asked (Some (Judge wish)) value = few_listening (listening_by value)
few_asked (Some (Generate wish)) value = tt
few_asked (Some (Check claim)) value = tt

few_by : (kind : Kind) (value : Values) → HasFewReaders (opened_by kind value)
few_by kinds.Apply value = few_asked (asked_by kinds.Apply value) value
few_by kinds.State value = few_asked (asked_by kinds.State value) value
few_by kinds.Receipts value = few_asked (asked_by kinds.Receipts value) value
few_by kinds.Status value = few_asked (asked_by kinds.Status value) value
few_by kinds.Publish value = few_asked (asked_by kinds.Publish value) value
few_by kinds.Prove value = few_asked (asked_by kinds.Prove value) value
few_by kinds.Events value = few_asked (asked_by kinds.Events value) value
few_by kinds.Check value = few_asked (asked_by kinds.Check value) value
few_by kinds.Generate value = few_asked (asked_by kinds.Generate value) value
few_by kinds.Tp value = few_port (required 1 65535 (value connect))

few_of : (kind : Kind) (value : Values) (fine : Bool) → HasFewReaders (unwrap_or (cond fine (Some (opened_by kind value)) None) Plain)
few_of kind value true = few_by kind value
few_of kind value false = tt

few_with : (kind : Kind) (all : Option (List Given)) → HasFewReaders (opened_with kind all)
few_with kind None = tt
few_with kind (Some given) = few_of kind (λ name. value_of name given) (are_of (options_of kind) given)

few_behind : (words : List (List ℕ)) (kind : Option Kind)
    → HasFewReaders (unwrap_or (option_map (λ kind. opened_with kind (given_in None words)) kind) Plain)
few_behind words None = tt
few_behind words (Some kind) = few_with kind (given_in None words)

pub few_alone : (words : List (List ℕ)) → HasFewReaders (opened_alone words)
few_alone [] = tt
few_alone (word ∷ words) = few_behind words (kind_of word)

-- How far a run of a chain of regions is.
use Rattle.std.specs.Prelude.{◌≡◌, List, [], Option, Some, None, IsSome}
use Rattle.cfg_world.specs.declared.ask.Question.{Question}
use Rattle.cfg_world.specs.Fits.{Pair}
use Rattle.cfg_world.specs.Inquiry.{Inquiry, Reads, AsksNext}
use Rattle.cfg_region.specs.ChainParts.{AreParts}
use Rattle.cfg_region.specs.Chains.{first_given}
use Rattle.cfg_region.specs.Environments.{Told}
use Rattle.cfg_run.specs.SoFar.{AskedSoFar}
use Rattle.cfg_run.specs.declared.next.Next.{Next}
use Rattle.cfg_run.specs.declared.next.Next.TheVariants.{Asks, Gives}
use Rattle.cfg_run.specs.declared.region_run.RegionStep.{RegionStep}
use Rattle.cfg_run.specs.declared.region_run.RegionStep.TheVariants.{Pending, Ready}

-- The run gave no answer yet: nothing was asked and no question is shown, or the one that is shown is the one
-- that the inquiry asks next.
abbrev pub IsUnderWay : {R : Type 0} → Inquiry R → List Pair → Option Question → Type 0
IsUnderWay inquiry asked None = asked ≡ []
IsUnderWay inquiry asked (Some question) = AsksNext inquiry asked question

-- What a poll answers: a question is shown, which is the next one; or none is shown, and what was asked is the
-- parts of these inquiries in order, up to the first that gave a region, which is the outcome.
abbrev pub ComesTo : List (Inquiry Told) → AskedSoFar → RegionStep → Type 0
ComesTo trees s Pending = IsSome s.question × IsUnderWay (first_given trees) s.asked s.question
ComesTo trees s (Ready region) = (s.question ≡ None) × AreParts trees s.asked region

-- What comes after this journal: the question that the inquiry asks next, or the outcome that it reads over it.
abbrev pub ComesNext : {R : Type 0} → Inquiry R → List Pair → Next R → Type 0
ComesNext inquiry asked (Asks question) = AsksNext inquiry asked question
ComesNext inquiry asked (Gives outcome) = Reads inquiry asked outcome

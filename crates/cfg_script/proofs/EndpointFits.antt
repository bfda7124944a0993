-- What the object of an endpoint says fits the devices that it is said of, and makes and numbers as many calls as there
-- may be.
use Rattle.std.proofs.Common.{◌≡◌, ℕ, List, Option, Some, None, Ok, Err, sym}
use Rattle.std.specs.Prelude.{pos, ◌≤ℤ◌, All, Result, IfSome, codes, IsTrue}
use Rattle.serde_json.specs.Data.{Data}
use Rattle.cfg_base.specs.Gives.{◌>>=◌}
use Rattle.cfg_script.specs.declared.endpoint.EndpointMode.{EndpointMode}
use Rattle.cfg_script.specs.declared.endpoint.EndpointScript.{EndpointScript}
use Rattle.cfg_script.specs.declared.fault.Fault.{Fault}
use Rattle.cfg_script.specs.declared.fault.Wanted.TheVariants as wanted
use Rattle.cfg_script.specs.Endpoints.{EndpointRows, mode_name, with_role, endpoint_members, in_mode, endpoint_in, endpoint}
use Rattle.cfg_script.specs.Moments.{moment, clock_moment}
use Rattle.cfg_script.specs.Objects.{optional_member, required_member}
use Rattle.cfg_script.specs.Reading.{bytes_said}
use Rattle.cfg_script.specs.Scalars.{characters_of, is_call_count, call_number}
use Rattle.cfg_script.proofs.Fitting.{went, ok_good, clock_good, ObjectSays, free, items, none_left, and, IsCounted, calls_good, count_good, bytes_say}

-- a call of that number, if it is said
abbrev IsNumbered : Option ℕ → Type 0
IsNumbered o = IfSome o (λ n. IsTrue (is_call_count n))

number_good : (m : Option Data) (o : Option ℕ) → (optional_member (codes "forget_after") call_number).read m ≡ Ok o → IsNumbered o
number_good None o e = ok_good IsNumbered None o e tt
number_good (Some d) o e =
    let w = went (call_number d) (λ n. Ok (Some n)) o e in
    ok_good IsNumbered (Some w.value) o w.next (count_good wanted.CallNumber d w.value w.is)

abbrev RowsFit : EndpointRows → Type 0
RowsFit rows =
    Unit {0} × (Unit {0} × (Unit {0} × (Unit {0} × (Unit {0} × (Unit {0}
    × (All (λ m. pos 0 ≤ℤ m.seconds) rows.1.1.1.1.1.1.0 × (IsCounted rows.1.1.1.1.1.1.1.0 × (IsNumbered rows.1.1.1.1.1.1.1.1.0 × Unit {0}))))))))

rows_say : ObjectSays endpoint_members RowsFit
rows_say =
    and (free (required_member (codes "mode") mode_name))
    (and (free (optional_member (codes "role") characters_of))
    (and (free (required_member (codes "id") characters_of))
    (and (free (required_member (codes "secret") characters_of))
    (and (free (required_member (codes "token") characters_of))
    (and (free (required_member (codes "expires") moment))
    (and (items (codes "clock") clock_moment (λ m. pos 0 ≤ℤ m.seconds) clock_good)
    (and (record { says = calls_good })
    (and (record { says = number_good })
    none_left))))))))

abbrev Fitting : EndpointScript → Type 0
Fitting s = All (λ m. pos 0 ≤ℤ m.seconds) s.clock × (IsTrue (is_call_count s.calls) × IsNumbered s.forget_after)

placed_fits : (rows : EndpointRows) (said : Result EndpointMode Fault) (s : EndpointScript) → (said >>= λ mode. Ok (in_mode rows mode)) ≡ Ok s → RowsFit rows → Fitting s
placed_fits rows (Ok mode) s e fit = ok_good Fitting (in_mode rows mode) s e (fit.1.1.1.1.1.1.0, (fit.1.1.1.1.1.1.1.0, fit.1.1.1.1.1.1.1.1.0))
placed_fits rows (Err f) s e fit = cc

rows_fit : (rows : EndpointRows) (s : EndpointScript) → endpoint_in rows ≡ Ok s → RowsFit rows → Fitting s
unfolding endpoint_in
rows_fit rows s e fit = placed_fits rows (with_role rows.0 rows.1.0) s e fit

endpoint_says : ObjectSays endpoint Fitting
endpoint_says = record {
  says = λ ms s e.
      let w = went (endpoint_members.read ms) (λ rows. endpoint_in rows) s e in
      rows_fit w.value s w.next (rows_say.says ms w.value w.is);
}

pub endpoint_fits : (bytes : List ℕ) (s : EndpointScript) → Ok s ≡ bytes_said endpoint bytes → Fitting s
endpoint_fits bytes s e = bytes_say endpoint Fitting endpoint_says bytes s (sym e)

-- Each call of the default chain that asks a container's endpoint gives what it serves.
use Rattle.std.proofs.Common.{◌≡◌, List, [], ◌∷◌, ◌++◌, false, Option, Some, None, sym, ap, ◌∙◌, subst, append-nil}
use Rattle.std.specs.Prelude.{Ok, codes, ◌-◌, ◌+◌, suc}
use Rattle.cfg_types.specs.Keys.{Keys}
use Rattle.cfg_types.specs.Environment.{read_value, text_read, readable}
use Rattle.cfg_types.specs.declared.reply.Reply.TheVariants as replied
use Rattle.cfg_types.specs.declared.request.Request.TheVariants as request
use Rattle.cfg_types.specs.declared.request.http.Http.{Http}
use Rattle.cfg_world.specs.declared.ask.Question.TheVariants as question
use Rattle.cfg_world.specs.declared.ask.Answer.{Answer as Given}
use Rattle.cfg_world.specs.declared.ask.Answer.TheVariants as answer
use Rattle.cfg_world.specs.Asked.{Same, StandsOn}
use Rattle.cfg_world.specs.Fits.{Pair}
use Rattle.cfg_world.specs.Held.{Held}
use Rattle.cfg_world.specs.Inquiry.{Done}
use Rattle.cfg_world.proofs.Inquiries.{split_after}
use Rattle.cfg_kept.specs.Chains.{chain}
use Rattle.cfg_kept.specs.Kinds.{Value, States}
use Rattle.cfg_kept.specs.KeptInquiry.{Runs, lift}
use Rattle.cfg_kept.proofs.Splits.{lowered_run}
use Rattle.cfg_base.specs.declared.address.Address.TheVariants.{V4}
use Rattle.cfg_exchange.specs.declared.container.ContainerSettings.{ContainerSettings}
use Rattle.cfg_exchange.specs.declared.container.ContainerUri.TheVariants as uri
use Rattle.cfg_exchange.specs.declared.full_uri.FullUri.TheVariants.{AtAddress}
use Rattle.cfg_exchange.specs.declared.reading.ReplyKind.TheVariants as kind
use Rattle.cfg_exchange.specs.declared.reading.Reading.TheVariants.{Fine}
use Rattle.cfg_exchange.specs.Classifiers.{unless_fine, credentials_repeats, is_repeated}
use Rattle.cfg_exchange.specs.Containers.{IsUriBy, document_keys, said_keys, reply_keys, answer_keys, credentials_request, attempt_limit, credentials_attempts, fetched_keys, container_target}
use Rattle.cfg_exchange.specs.Readings.{said_reading, document_reading}
use Rattle.cfg_exchange.specs.Targets.{full_target}
use Rattle.cfg_exchange.proofs.Pieces.{attempts_piece}
use Rattle.cfg_imds.proofs.Shapes.{done_is}
use Rattle.cfg_providers.specs.CustomSources.{Answer}
use Rattle.cfg_chain.specs.declared.member.Member.TheVariants.{EcsContainer, Ec2InstanceMetadata}
use Rattle.cfg_chain.specs.Members.{member_tree, credentials_chain}
use Rattle.cfg_chain.specs.Provides.{IsCall}
use Rattle.cfg_chain.specs.Settings.{ChainSetting, Setting, setting, container_settings}
use Rattle.cfg_chain.proofs.Calls.{runs_call, some_is}
use Rattle.cfg_endpoint.specs.declared.served.Served.{Served}
use Rattle.cfg_endpoint.specs.Endpoints.{EndpointState, with_body, document_of}
use Rattle.cfg_endpoint.specs.Made.{IsWritable}
use Rattle.cfg_endpoint.specs.Serves.{AnswersAs, Serves, after_question, after_questions}
use Rattle.cfg_endpoint.specs.Devices.{DevicesState, start, Allows, Stands}
use Rattle.cfg_endpoint.specs.Calls.{container_address, HasContainer, IsReadyFor, HasGone, endpoint_after, GoesOnByContainer}
use Rattle.cfg_endpoint.proofs.ContainerAddresses.{local_target, local_at}
use Rattle.cfg_endpoint.proofs.Documents.{body_says_served}
use Rattle.cfg_endpoint.proofs.Gets.{one_try, Later, later_questions}
use Rattle.cfg_endpoint.proofs.GoingOn.{made_later}
use Rattle.cfg_endpoint.proofs.Members.{container_without, behind_three, first_gives}
use Rattle.cfg_endpoint.proofs.Stretches.{serves_split, after_both}

-- ---- the document's reply

document_fine : (s : Served) → IsWritable s → document_reading (with_body (document_of s)) ≡ Fine
unfolding document_reading
document_fine s w = ap said_reading (body_says_served s w)

abbrev keys_of : Served → Keys
keys_of s = document_keys s.id s.secret s.token None s.expires

document_gives : (s : Served) → IsWritable s → answer_keys (answer.Replied (replied.Http (with_body (document_of s)))) ≡ Ok (keys_of s)
unfolding answer_keys reply_keys
document_gives s w = ap said_keys (body_says_served s w)

-- ---- one call

module _ (settings : ContainerSettings) (e : EndpointState) (w : IsWritable e.served) where
  abbrev call : Http
  call = credentials_request settings None local_target

  sent_is : (a : Given) → AnswersAs e (question.Send (request.Http call)) a → a ≡ answer.Replied (replied.Http (with_body (document_of e.served)))
  sent_is a h = h.is ∙ ap (λ r. answer.Replied (replied.Http r)) h.replies

  not_repeated : (a : Given) → AnswersAs e (question.Send (request.Http call)) a → is_repeated kind.Document credentials_repeats a ≡ false
  not_repeated a h =
      let r = with_body (document_of e.served) in
      subst (λ x. is_repeated kind.Document credentials_repeats x ≡ false) (sym (sent_is a h)) (ap (λ k. unless_fine k (credentials_repeats (Some r) k)) (document_fine e.served w))

  fetch_served : (old : States) (found : List Value) (part rest whole : List Pair) (out : Answer) (new : Option States) → whole ≡ part ++ rest → Serves e whole → Runs (lift (fetched_keys settings None local_target)) (Some old) found part out new →
      (out ≡ Ok (keys_of e.served)) × (new ≡ Some old) × (after_questions e part ≡ e)
  unfolding fetched_keys
  fetch_served old found part rest whole out new parts serves run =
      let l = lowered_run (fetched_keys settings None local_target) (Some old) new found part out run in
      let s = split_after (credentials_attempts settings call) (λ last. Done (answer_keys last.1)) part out l.2 in
      let end = done_is (answer_keys s.middle.1) s.rest out s.then in
      let same : part ≡ s.part = s.parts ∙ ap (λ r. s.part ++ r) end.0 ∙ append-nil s.part in
      let there : Serves e s.part = subst (Serves e) same (serves_split e part rest (subst (Serves e) parts serves)).0 in
      let p = attempts_piece (attempt_limit settings.sleep - 1) (question.Send (request.Http call)) (is_repeated kind.Document credentials_repeats) s.part s.middle s.first in
      let one = one_try e (question.Send (request.Http call)) (suc (attempt_limit settings.sleep - 1)) (is_repeated kind.Document credentials_repeats) s.part s.middle not_repeated p there in
      let given = sent_is s.middle.1 (subst (λ x. AnswersAs e x s.middle.1) p.asks (subst (Serves e) one there).0) in (
        sym end.1 ∙ ap answer_keys given ∙ document_gives e.served w,
        sym l.1,
        ap (after_questions e) (same ∙ one) ∙ ap (after_question e) p.asks,
      )

module _ (over : ChainSetting) (has : HasContainer over) (old new : States) (found : List Value) (part : List Pair) (out : Answer) (c : IsCall over old new found part out) where
  abbrev s : Setting
  s = setting over c.services

  named_is : c.services.container ≡ uri.Full container_address (AtAddress local_target (V4 2130706433))
  named_is =
      local_at c.services.container
      (subst (λ o. IsUriBy o (Some container_address) c.services.container) (ap (λ o. text_read (read_value o)) (has.environment (codes "AWS_CONTAINER_CREDENTIALS_RELATIVE_URI")))
      (subst (λ o. IsUriBy (readable over.configuration.environment (codes "AWS_CONTAINER_CREDENTIALS_RELATIVE_URI")) o c.services.container) (ap (λ o. text_read (read_value o)) (has.environment (codes "AWS_CONTAINER_CREDENTIALS_FULL_URI"))) c.names.container))

  tree_is : member_tree s EcsContainer ≡ lift (fetched_keys (container_settings over.configuration) None local_target)
  unfolding container_target full_target
  tree_is = container_without s (has.environment (codes "AWS_CONTAINER_AUTHORIZATION_TOKEN_FILE")) (has.environment (codes "AWS_CONTAINER_AUTHORIZATION_TOKEN")) (uri.Full container_address (AtAddress local_target (V4 2130706433))) named_is

  container_served : (e : EndpointState) → IsWritable e.served → Serves e part → (out ≡ Ok (keys_of e.served)) × (new ≡ old) × (after_questions e part ≡ e)
  container_served e w serves =
      let settings = container_settings over.configuration in
      let three = behind_three s (has.environment (codes "AWS_ACCESS_KEY_ID")) (has.environment (codes "AWS_WEB_IDENTITY_TOKEN_FILE")) has.sections (EcsContainer ∷ Ec2InstanceMetadata ∷ []) in
      let runs : Runs (chain (credentials_chain s) (EcsContainer ∷ Ec2InstanceMetadata ∷ []) three.0) (Some old) found part out (Some new) = subst (λ t. Runs t (Some old) found part out (Some new)) three.1 (runs_call over old new found part out c) in
      let first = first_gives s EcsContainer (Ec2InstanceMetadata ∷ []) three.0 old found part out (Some new) runs (λ f p o k run rest parts. (keys_of e.served, (fetch_served settings e w old f p rest part o k parts serves (subst (λ t. Runs t (Some old) f p o k) tree_is run)).0)) in
      let r = fetch_served settings e w old first.0 part [] part out (Some new) (sym (append-nil part)) serves (subst (λ t. Runs t (Some old) first.0 part out (Some new)) tree_is first.1) in
      (r.0, some_is new old r.1, r.2)

pub container_goes_on : (over : ChainSetting) (old new : States) (found : List Value) (d : DevicesState) (journal part : List Pair) (before later : Held DevicesState) (out : Answer) → HasContainer over → IsReadyFor d → HasGone d before.devices journal →
    later.journal ≡ before.journal ++ part → Same (Allows before.devices) (Allows later.devices) → StandsOn (Stands before.devices) (Stands later.devices) part → IsCall over old new found part out → GoesOnByContainer d journal old new before later out
container_goes_on over old new found d journal part before later out has ready gone grows same stands call =
    let e : EndpointState = endpoint_after d journal in
    let l : Later (start d) e = later_questions (start d) journal in
    let st : Stands later.devices (journal ++ part) = stands journal gone.stands in
    let allowed : Allows d (journal ++ part) = gone.same.from (journal ++ part) (same.from (journal ++ part) st.allowed) in
    let serves = (serves_split (start d) journal part allowed.0).1 in
    let made = made_later (start d) e l ready.made in
    let r = container_served over has old new found part out call e made.served serves in
    record {
      part = part;
      grows = grows;
      gives = r.0 ∙ ap (λ s. Ok (keys_of s)) l.served;
      kept_is = r.1;
      same = after_both (start d) journal part ∙ r.2;
      gone = record { same = record { to = λ j h. same.to j (gone.same.to j h); from = λ j h. gone.same.from j (same.from j h) }; stands = st };
    }

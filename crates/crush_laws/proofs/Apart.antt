-- Clients apart, and together.
use Rattle.std.proofs.Common.{◌≡◌, ◌+◌, ◌++◌, ℕ, zero, suc, List, [], ◌∷◌, length, map, take, drop, flat_map, Option, Some, None, refl, sym, ap, subst, ◌∙◌, arith}
use Rattle.std.proofs.lemmas.List.{length-append, length-map}
use Rattle.std.specs.List.{All}
use Rattle.crush_server.specs.crush_http.specs.Messages.{calls_of}
use Rattle.crush_server.specs.crush_http.specs.Serving.{ServesInput}
use Rattle.crush_server.specs.crush_http.specs.declared.connection.ConnectionEnd.{ConnectionEnd}
use Rattle.crush_server.specs.Clients.{Clients, ServesClients, ServesEach, all_sent}
use Rattle.crush_laws.specs.Served.{AreJust, Client, IsServed}
use Rattle.tenant_core.specs.tenant_messages.specs.declared.call.Call.{Call}
use Rattle.tenant_core.specs.tenant_messages.specs.declared.reply.Reply.{Reply}

abbrev Says : Type 1
Says = List Call → List Reply → Type 0

abbrev pub calls_in : List Client → List Call
calls_in clients = flat_map (λ (c : Client). c.calls) clients

abbrev pub replies_in : List Client → List Reply
replies_in clients = flat_map (λ (c : Client). c.replies) clients

-- clients with these inputs and outputs were served, and their calls and replies meet `Meets`
pub record Apart (Meets : Says) (inputs outputs : List (List ℕ)) : Type 0 where
  pub clients : List Client
  pub sent : map (λ (c : Client). c.input) clients ≡ inputs
  pub got : map (λ (c : Client). c.output) clients ≡ outputs
  pub served : All IsServed clients
  pub meets : Meets (calls_in clients) (replies_in clients)

none_served : All IsServed []
none_served k d lt = absurd (omega arith)

one_more : (c : Client) (clients : List Client) → IsServed c → All IsServed clients → All IsServed (c ∷ clients)
one_more c clients is all zero d lt = is
one_more c clients is all (suc k) d lt = all k d (omega arith)

pub apart : (inputs outputs : List (List ℕ)) (Meets : Says) → ServesEach Meets inputs outputs → Apart Meets inputs outputs
apart [] [] Meets serves = record { clients = []; sent = refl; got = refl; served = none_served; meets = serves }
apart [] (output ∷ outputs) Meets serves = absurd serves
apart (input ∷ inputs) [] Meets serves = absurd serves
apart (input ∷ inputs) (output ∷ outputs) Meets (ended, serves) =
    let deep = apart inputs outputs (λ cs rs. Meets (calls_of serves.messages ++ cs) (serves.replies ++ rs)) serves.meets in
    let c : Client = record { input = input; output = output; calls = calls_of serves.messages; replies = serves.replies } in
    let is : IsServed c = (
      ended,
      record {
        messages = serves.messages;
        stop = serves.stop;
        has = serves.has;
        replies = serves.replies;
        count = serves.count;
        meets = (refl, refl);
        written = serves.written;
        unread = serves.unread;
      },
    ) in
    record {
      clients = c ∷ deep.clients;
      sent = ap (λ (l : List (List ℕ)). input ∷ l) deep.sent;
      got = ap (λ (l : List (List ℕ)). output ∷ l) deep.got;
      served = one_more c deep.clients is deep.served;
      meets = deep.meets;
    }

pub together : (clients : List Client) (Meets : Says) → All IsServed clients → Meets (calls_in clients) (replies_in clients)
    → ServesEach Meets (map (λ (c : Client). c.input) clients) (map (λ (c : Client). c.output) clients)
together [] Meets all meets = meets
together (c ∷ clients) Meets all meets =
    let (ended, serves) = all zero c (omega arith) in
    let both : Meets (calls_of serves.messages ++ calls_in clients) (serves.replies ++ replies_in clients) =
    subst (λ (cs : List Call). Meets (cs ++ calls_in clients) (serves.replies ++ replies_in clients)) (sym serves.meets.0)
    (subst (λ (rs : List Reply). Meets (c.calls ++ calls_in clients) (rs ++ replies_in clients)) (sym serves.meets.1) meets) in (
      ended,
      record {
        messages = serves.messages;
        stop = serves.stop;
        has = serves.has;
        replies = serves.replies;
        count = serves.count;
        meets = together clients (λ cs rs. Meets (calls_of serves.messages ++ cs) (serves.replies ++ rs)) (λ k d lt. all (suc k) d (omega arith)) both;
        written = serves.written;
        unread = serves.unread;
      },
    )

-- there are as many outputs as inputs
pub as_many : (Meets : Says) (inputs outputs : List (List ℕ)) → Apart Meets inputs outputs → length outputs ≡ length inputs
as_many Meets inputs outputs they =
    sym (ap (λ (l : List (List ℕ)). length l) they.got) ∙ (length-map they.clients (λ (c : Client). c.output)
    ∙ (sym (length-map they.clients (λ (c : Client). c.input)) ∙ ap (λ (l : List (List ℕ)). length l) they.sent))

pub known_of_more : (Meets : Says) (count : ℕ) (old new : Clients) → ServesClients Meets count (Some old) (Some new)
    → (new.coming ≡ drop count old.coming) × (length new.answered ≡ length old.answered + length (all_sent (take count old.coming)))
known_of_more Meets count old new serves =
    let (sent, becomes) = serves.known in
    let is : new ≡ record { coming = drop count old.coming; answered = old.answered ++ serves.outputs } = cc in
    let many : length serves.outputs ≡ length serves.inputs = as_many Meets serves.inputs serves.outputs (apart serves.inputs serves.outputs Meets serves.each) in (
      ap (λ (c : Clients). c.coming) is,
      ap (λ (c : Clients). length c.answered) is ∙ (length-append old.answered serves.outputs
          ∙ ap (λ (n : ℕ). length old.answered + n) (many ∙ ap (λ (l : List (List ℕ)). length l) sent)),
    )

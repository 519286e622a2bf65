use Rattle.std.proofs.Common.{Err, ⊎_elim, refl, rules}
use Rattle.wm_host.specs.declared.stop.Stop.TheVariants.{SayFault, DiskFault, Exists, Memory}
use Rattle.wm_host.proofs.Ending.{at_done, at_status}
use Rattle.wm_host.proofs.Making.{statuses_of_making, place_of_making}
use Rattle.wm_host.proofs.store.init.Goals as goal

pub returns-clause-ends : goal.returns-clause-ends
returns-clause-ends g c = record {
  done = λ zero t. at_done c.make_store.result c.of.result.status c.of.ensures.status zero (c.make_store.ensures.done t);
  front = search rules;
  unsaid = λ five t. c.make_store.ensures.unsaid t (at_status c.make_store.result (Err DiskFault) c.of.result.status c.of.ensures.status five refl);
  made = λ either t.
      ⊎_elim
      (λ zero. at_done c.make_store.result c.of.result.status c.of.ensures.status zero (c.make_store.ensures.made t))
      (λ four. c.make_store.ensures.made_unsaid t (at_status c.make_store.result (Err SayFault) c.of.result.status c.of.ensures.status four refl))
      either;
  absent = λ either t.
      ⊎_elim
      (λ zero. at_done c.make_store.result c.of.result.status c.of.ensures.status zero (c.make_store.ensures.absent t))
      (λ four. c.make_store.ensures.absent_unsaid t (at_status c.make_store.result (Err SayFault) c.of.result.status c.of.ensures.status four refl))
      either;
  kept = search rules;
  statuses = statuses_of_making c.make_store.result c.of.result.status c.of.ensures.status c.make_store.ensures.making;
  lines = search rules;
  place = rw c.of.ensures.place (place_of_making c.make_store.result c.make_store.ensures.making);
}

pub returns-clause-store : goal.returns-clause-store
returns-clause-store g c =
    let among = statuses_of_making c.make_store.result c.of.result.status c.of.ensures.status c.make_store.ensures.making in
    record {
      not_store = search (rules, among);
      synced = search (rules, among);
      damaged = search (rules, among);
      place = c.of.ensures.page;
      unwritten = rw (c.of.ensures.place, place_of_making c.make_store.result c.make_store.ensures.making) (search rules);
      sound = search (rules, among);
      unsaid = search (rules, among);
      unopened = search (rules, among);
      pages = search (rules, among);
      pages_any_moment = search (rules, among);
      exists = λ eight t. c.make_store.ensures.exists t (at_status c.make_store.result (Err Exists) c.of.result.status c.of.ensures.status eight refl);
      unchanged = search (rules, among);
    }

pub returns-clause-faults : goal.returns-clause-faults
returns-clause-faults g c = record {
  say = λ four. c.make_store.ensures.say_failed (at_status c.make_store.result (Err SayFault) c.of.result.status c.of.ensures.status four refl);
  disk = λ five. c.make_store.ensures.disk_failed (at_status c.make_store.result (Err DiskFault) c.of.result.status c.of.ensures.status five refl);
  say_kept = λ zero. at_done c.make_store.result c.of.result.status c.of.ensures.status zero c.make_store.ensures.say_kept;
  disk_kept = λ either.
      ⊎_elim
      (λ zero. at_done c.make_store.result c.of.result.status c.of.ensures.status zero c.make_store.ensures.disk_kept)
      (λ ten. c.make_store.ensures.disk_spared (at_status c.make_store.result (Err Memory) c.of.result.status c.of.ensures.status ten refl))
      either;
  say_later = search rules;
  disk_later = search rules;
}

-- The theorem of specs/Theorems.antt, from what is proved of a link, of two chains, and of plans. The example is computed.
use Prim.Native.Nat.{ℕ, ◌≤◌}
use mathlib.Core.Path.{◌≡◌, refl, sym, ap, ◌∙◌}
use mathlib.Core.Logic.{◌⊎◌, inl, inr}
use mathlib.Core.Option.{some}
use mathlib.Core.List.{List}
use lib.Dec.{eqb}
use lib.ListN.{length}
use Rattle.rfc7693.specs.Rfc7693.{rotr, words, iv, sigma, added, xor_rotated, G, work_vector, round, rounds, F, input, block_at, block_count, leading, compressions, compressed, initial, blake2s}
use Rattle.endian.specs.Endian.{word, first_bytes}
use Rattle.record.specs.Record.{Contents, reset_seed, record_at}
use Rattle.handover.specs.Reset.{Next, measured_id_for, resetting}
use Rattle.handover.specs.Theorems.{Typed, asked}
use Rattle.handover.proofs.Proved.{handovers}
use Rattle.head.specs.Answers.{Result}
use Rattle.head.specs.Begin.{config_of, waiting_with, by_type, beginning}
use Rattle.session.specs.Reading.{type_of}
use Rattle.session.specs.Session.{Reset, begun, Admitted}
use Rattle.session.specs.Boot.{basis}
use Rattle.session.proofs.Resets.{config}
use Rattle.session.proofs.Begins.{not_refused, client_waits}
use Rattle.session.proofs.Proved.{sound}
use Rattle.record.specs.declared.Digests.{Digests}
use Rattle.chain.specs.Theorems.{Begins, Example, Chains}
use Rattle.chain.proofs.Configs.{config_stays}
use Rattle.chain.proofs.Ends.{folded, strings_are, same_starts, same_end, same_length}
use Rattle.chain.proofs.Plans.{four_or_five, planned, first, plan_for, possible_for, plans_for, all_possible, in_order}

module _ (cdi seed : List ℕ) (x : Next) (memory : List ℕ) (t : Typed x) (k : (resetting cdi seed x memory).number ≡ 0) (R : Reset)
    (e : R.rec ≡ (resetting cdi seed x memory).rec) (a : Admitted R) where
  abbrev id : List ℕ
  id = measured_id_for x.mask cdi seed

  reads : record_at R.rec ≡ asked x id
  reads = ap record_at e ∙ (handovers.gives cdi seed x memory t k).reads

  type_is : type_of R.rec ≡ x.type
  type_is = ap type_of e ∙ (handovers.gives cdi seed x memory t k).fields.type

  by_asked : begun R ≡ by_type (asked x id) R.udi R.flash R.ram R.uds
  unfolding beginning
  by_asked = rw (not_refused R a, reads)

  abbrev recorded : Digests
  recorded = (asked x id).digests

  -- the config of types 4 and 5
  config_is : (n : ℕ) → (n ≡ 4) ⊎ (n ≡ 5)
      → config_of (record { type = some n; reset_seed = reset_seed x.mask; digests = recorded; measured_id = id }) R.udi R.flash.built_in (length R.ram)
      ≡ record {
        ram_len = length R.ram;
        measured_id = id;
        udi = R.udi;
        digests = recorded;
        verify = eqb n 5;
        chained = reset_seed x.mask;
      }
  config_is n (inl q) = rw q
  config_is n (inr q) = rw q

  client : 4 ≤ x.type → (x.type ≡ 4) ⊎ (x.type ≡ 5)
  client n = four_or_five x.type n ((handovers.settles cdi seed x memory).accepts.0 k).0

  waiting : 4 ≤ x.type → begun R ≡ waiting_with (config R) R.ram R.uds
  waiting n = client_waits R a (rw type_is (client n))

  begins : Begins x id R
  begins =
      record {
        by_asked = by_asked;
        waits = λ n. ap (λ (y : Result). y.report) (waiting n);
        config = λ n.
            ap (λ (y : Result). y.state.config) (waiting n)
            ∙ ap (λ (c : Contents). config_of c R.udi R.flash.built_in (length R.ram)) reads
            ∙ config_is x.type (client n);
        stays = λ S q y i n. config_stays S.calls (begun S.reset).state i.before i.after y i.place n ∙ ap (λ (Q : Reset). (begun Q).state.config) q;
      }

example : Example
unfolding word rotr words first_bytes iv sigma added xor_rotated G work_vector round rounds F input block_at block_count leading compressions compressed initial blake2s
example = record { two_links = refl }

pub chains : Chains
chains =
    record {
      begins = begins;
      cdi = λ c. folded (basis c.first).uds c.first c.links c.linked;
      example = example;
      strings = λ c. strings_are (basis c.first).uds c.first c.links c.linked;
      injective = λ c c' e.
          same_starts c.links c'.links
          (strings_are (basis c.first).uds c.first c.links c.linked ∙ e ∙ sym (strings_are (basis c'.first).uds c'.first c'.links c'.linked));
      same_end = λ c c'. same_end (basis c.first).uds (basis c'.first).uds c.first c'.first c.links c'.links c.linked c'.linked;
      same_length = λ c c'. same_length (basis c.first).uds (basis c'.first).uds c.first c'.first c.links c'.links c.linked c'.linked;
      exists = λ t ps h.
          let r = planned (basis t).uds (sound t).eight (sound t).typed t ps h in
          (record { first = t; links = r.0; linked = r.1 }, refl, r.2);
      possible = λ n seed program secret t s l m c. (plan_for n seed program secret, possible_for n seed program secret t s l m c, refl, refl, refl, refl);
      orders = λ ns h.
          let r = planned (basis first).uds (sound first).eight (sound first).typed first (plans_for ns) (all_possible ns h) in
          (record { first = first; links = r.0; linked = r.1 }, in_order ns r.0 r.2);
    }

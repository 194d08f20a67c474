-- What follows of calls that print.
use Rattle.std.proofs.Common.{ℕ, ◌≤◌, ◌++◌, inl, inr, List, [], subst, arith, Result, Ok, Err, append-nil}
use Rattle.sag_edge.specs.Reading.{SeenFiles}
use Rattle.sag_edge.specs.Writing.{GrowsBy, SeenSink, StillTells}
use Rattle.sag_edge.proofs.WriteLemmas.{none_prefix, prefix_from_front, prefix_more, prefix_on, rose_on, takes_more, takes_none, tells_more, tells_none, tells_on}
use Rattle.sag_texts.specs.declared.fault.Fault.{Fault}
use Rattle.sag_engine.specs.declared.conclusion.Conclusion.{Conclusion}
use Rattle.sag_engine.specs.declared.halt.Halt.{Halt}
use Rattle.sag_engine.specs.declared.halt.Halt.TheVariants.{Usage, Refused, Read, Write, Memory}
use Rattle.sag_engine.specs.Plan.{Plan}
use Rattle.sag_engine.specs.Work.{Work, Reply}
use Rattle.sag_engine.specs.Commands.{Replies}
use Rattle.sag_engine.specs.RunEnds.{Follows, EndsWriting, Writes, Prints, EndsWork, Runs, Gives}

end_on : {T U : Type 0} (a b c : SeenSink) (x y : List ℕ) (t : T) (r : Result U Halt) → a.faults ≤ b.faults → EndsWriting x a b (Ok t) → EndsWriting y b c r → EndsWriting (x ++ y) a c r
end_on a b c x y t (Ok u) l d k = takes_more a.taken b.taken c.taken x y d k
end_on a b c x y t (Err Write) l d k = (rose_on a.faults b.faults c.faults l k.0, prefix_on a.taken b.taken c.taken x y d k.1)
end_on a b c x y t (Err Memory) l d k = prefix_on a.taken b.taken c.taken x y d k
end_on a b c x y t (Err Usage) l d k = absurd k
end_on a b c x y t (Err (Refused fault)) l d k = absurd k
end_on a b c x y t (Err (Read kind)) l d k = absurd k

-- some bytes, and then others
pub writes_then : {T U : Type 0} {a b c : SeenSink} {x y : List ℕ} {t : T} {r : Result U Halt} → Writes x a b (Ok t) → Writes y b c r → Writes (x ++ y) a c r
writes_then {a = a} {b = b} {c = c} {x = x} {y = y} {t = t} {r = r} d k = record {
  later = omega (arith, d.later, k.later);
  tells = tells_on a b c x y d.end (tells_more a b x y d.tells) k.tells;
  end = end_on a b c x y t r d.later d.end k.end;
}

-- the last bytes, and then none
pub writes_last : {T U : Type 0} {a b c : SeenSink} {x : List ℕ} {t : T} {r : Result U Halt} → Writes x a b (Ok t) → Writes [] b c r → Writes x a c r
writes_last {a = a} {c = c} {x = x} {r = r} d k = subst (λ z. Writes z a c r) (append-nil x) (writes_then d k)

end_alike : (T U : Type 0) (a b : SeenSink) (x : List ℕ) (h : Halt) → EndsWriting {T = T} x a b (Err h) → EndsWriting {T = U} x a b (Err h)
end_alike T U a b x Write d = d
end_alike T U a b x Memory d = d
end_alike T U a b x Usage d = absurd d
end_alike T U a b x (Refused fault) d = absurd d
end_alike T U a b x (Read kind) d = absurd d

-- the last bytes, on which the call stopped
pub writes_halt_last : {T U : Type 0} {a b : SeenSink} {x : List ℕ} {h : Halt} → Writes {T = T} x a b (Err h) → Writes {T = U} x a b (Err h)
writes_halt_last {T = T} {U = U} {a = a} {b = b} {x = x} {h = h} d = record { later = d.later; tells = d.tells; end = end_alike T U a b x h d.end }

-- these bytes were written
pub record Wrote (bytes : List ℕ) (old new : SeenSink) : Type 0 where
  pub later : old.faults ≤ new.faults
  pub tells : StillTells old new bytes
  pub grows : GrowsBy old.taken new.taken bytes

pub wrote : {T : Type 0} {a b : SeenSink} {x : List ℕ} {t : T} → Writes x a b (Ok t) → Wrote x a b
wrote d = record { later = d.later; tells = d.tells; grows = d.end }

-- these bytes, and then a call that writes
pub writes_after : {U : Type 0} {a b c : SeenSink} {x y : List ℕ} {r : Result U Halt} → Wrote x a b → Writes y b c r → Writes (x ++ y) a c r
writes_after {a = a} {b = b} {x = x} d k =
    let first : Writes {T = ℕ} x a b (Ok 0) = record { later = d.later; tells = d.tells; end = d.grows } in
    writes_then first k

-- these bytes, and then others
pub wrote_then : {a b c : SeenSink} {x y : List ℕ} → Wrote x a b → Wrote y b c → Wrote (x ++ y) a c
wrote_then {b = b} {c = c} {y = y} d k =
    let more : Writes {T = ℕ} y b c (Ok 0) = record { later = k.later; tells = k.tells; end = k.grows } in
    wrote (writes_after d more)

end_earlier : (T U : Type 0) (a b : SeenSink) (x y : List ℕ) (h : Halt) → EndsWriting {T = T} x a b (Err h) → EndsWriting {T = U} (x ++ y) a b (Err h)
end_earlier T U a b x y Write d = (d.0, prefix_more a.taken b.taken x y d.1)
end_earlier T U a b x y Memory d = prefix_more a.taken b.taken x y d
end_earlier T U a b x y Usage d = absurd d
end_earlier T U a b x y (Refused fault) d = absurd d
end_earlier T U a b x y (Read kind) d = absurd d

-- a call stopped on the first ones of these bytes
pub writes_earlier : {T U : Type 0} {a b : SeenSink} {x : List ℕ} {h : Halt} (y : List ℕ) → Writes {T = T} x a b (Err h) → Writes {T = U} (x ++ y) a b (Err h)
writes_earlier {T = T} {U = U} {a = a} {b = b} {x = x} {h = h} y d = record { later = d.later; tells = tells_more a b x y d.tells; end = end_earlier T U a b x y h d.end }

-- these bytes are all
pub writes_all : {U : Type 0} {a b c : SeenSink} {x : List ℕ} {r : Result U Halt} → Wrote x a b → Writes [] b c r → Writes x a c r
writes_all {a = a} {c = c} {x = x} {r = r} d k = subst (λ z. Writes z a c r) (append-nil x) (writes_after d k)

-- memory ran out behind the first ones of these bytes
pub writes_no_more : {T : Type 0} {a b : SeenSink} {x : List ℕ} (y : List ℕ) → Wrote x a b → Writes {T = T} (x ++ y) a b (Err Memory)
writes_no_more {a = a} {b = b} {x = x} y d = record { later = d.later; tells = tells_more a b x y d.tells; end = prefix_from_front a.taken b.taken x y d.grows }

-- memory ran out before anything was written
pub writes_none : {T : Type 0} (a : SeenSink) (x : List ℕ) → Writes {T = T} x a a (Err Memory)
writes_none a x = record { later = omega arith; tells = tells_more a a [] x (tells_none a); end = none_prefix a.taken a.taken x (takes_none a.taken) }

-- a reply of which the first bytes were printed
pub prints_halt : {reply : Reply} {a b : SeenSink} {h : Halt} → Writes {T = Conclusion} reply.bytes a b (Err h) → Prints reply a b (Err h)
prints_halt d = record { writes = d; conclusion = tt }

given : (p : Plan (Result Work Fault)) (f f' : SeenFiles) (t : Work) (reply : Reply) (h : Follows (λ w. w) p f f' (Ok t)) → Replies t reply → Gives p f.contents reply
given p f f' t reply h r = record { work = t; comes = h.end; replies = r }

end_work : (p : Plan (Result Work Fault)) (f f' : SeenFiles) (o o' : SeenSink) (t : Work) (reply : Reply) (r : Result Conclusion Halt) → Follows (λ w. w) p f f' (Ok t) → Replies t reply → Prints reply o o' r → EndsWork p f f' o o' r
end_work p f f' o o' t reply (Ok told) h s k = (reply, given p f f' t reply h s, k.conclusion.0, k.writes.end, k.conclusion.1)
end_work p f f' o o' t reply (Err Write) h s k = (k.writes.end.0, (reply, given p f f' t reply h s, k.writes.end.1))
end_work p f f' o o' t reply (Err Memory) h s k = inr (reply, given p f f' t reply h s, k.writes.end)
end_work p f f' o o' t reply (Err Usage) h s k = absurd k.writes.end
end_work p f f' o o' t reply (Err (Refused fault)) h s k = absurd k.writes.end
end_work p f f' o o' t reply (Err (Read kind)) h s k = absurd k.writes.end

-- the files of a command were read, and its output was printed
pub runs_then : (p : Plan (Result Work Fault)) (t : Work) {f f' : SeenFiles} {o o' : SeenSink} {reply : Reply} {r : Result Conclusion Halt} → Follows (λ w. w) p f f' (Ok t) → Replies t reply → Prints reply o o' r → Runs p f f' o o' r
runs_then p t {f = f} {f' = f'} {o = o} {o' = o'} {reply = reply} {r = r} h s k = record {
  later = record { contents = h.contents; of_files = h.later; of_out = k.writes.later };
  tells = inr (reply, given p f f' t reply h s, k.writes.tells);
  end = end_work p f f' o o' t reply r h s k;
}

end_stopped : {T : Type 0} (view : T → Work) (p : Plan (Result Work Fault)) (f f' : SeenFiles) (o : SeenSink) (h : Halt) → Follows view p f f' (Err h) → EndsWork p f f' o o (Err h)
end_stopped view p f f' o (Refused fault) h = (h.end, takes_none o.taken)
end_stopped view p f f' o (Read kind) h = (h.end.0, takes_none o.taken, (h.end.1.0, h.end.1.1, h.end.1.2))
end_stopped view p f f' o Usage h = absurd h.end
end_stopped view p f f' o Write h = absurd h.end
end_stopped view p f f' o Memory h = inl (takes_none o.taken)

-- the files of a command were not all read
pub runs_halt : {T : Type 0} (view : T → Work) (p : Plan (Result Work Fault)) {f f' : SeenFiles} {o : SeenSink} {h : Halt} → Follows view p f f' (Err h) → Runs p f f' o o (Err h)
runs_halt view p {f = f} {f' = f'} {o = o} {h = h} k = record {
  later = record { contents = k.contents; of_files = k.later; of_out = omega arith };
  tells = inl (tells_none o);
  end = end_stopped view p f f' o h k;
}

-- the files of a command were read, and memory ran out before anything was printed
pub runs_memory : (p : Plan (Result Work Fault)) (t : Work) {f f' : SeenFiles} {o : SeenSink} → Follows (λ w. w) p f f' (Ok t) → Runs p f f' o o (Err Memory)
runs_memory p t {o = o} h = record {
  later = record { contents = h.contents; of_files = h.later; of_out = omega arith };
  tells = inl (tells_none o);
  end = inl (takes_none o.taken);
}

-- memory ran out before anything of the reply was printed
pub prints_memory : (reply : Reply) (a : SeenSink) → Prints reply a a (Err Memory)
prints_memory reply a = prints_halt (writes_none a reply.bytes)

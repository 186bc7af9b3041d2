-- Answers of `computed_profile`: what its calls ask for, and what it promises.
use Rattle.link_check.proofs.ComputedProfile as computed
use Rattle.link_check.proofs.rows.computed_profile.Goals as goal

pub returns-clause-resolved_fields : goal.returns-clause-resolved_fields
returns-clause-resolved_fields c = computed.resolved_fields

pub returns-clause-resolved_methods : goal.returns-clause-resolved_methods
returns-clause-resolved_methods c = computed.resolved_methods

pub returns-clause-library_methods : goal.returns-clause-library_methods
returns-clause-library_methods c = computed.library_methods

pub returns-clause-resolved_arrays : goal.returns-clause-resolved_arrays
returns-clause-resolved_arrays c = computed.resolved_arrays

pub returns-clause-supertypes : goal.returns-clause-supertypes
returns-clause-supertypes c = computed.supertypes

pub returns-clause-types : goal.returns-clause-types
returns-clause-types c = computed.types

pub returns-clause-operands : goal.returns-clause-operands
returns-clause-operands c = computed.operands

pub returns-clause-handlers : goal.returns-clause-handlers
returns-clause-handlers c = computed.handlers

pub returns-clause-fields : goal.returns-clause-fields
returns-clause-fields c = computed.fields

pub returns-clause-calls : goal.returns-clause-calls
returns-clause-calls c = computed.calls

pub returns-clause-library_calls : goal.returns-clause-library_calls
returns-clause-library_calls c = computed.library_calls

pub returns-clause-access : goal.returns-clause-access
returns-clause-access c = computed.access

pub returns-clause-special_calls : goal.returns-clause-special_calls
returns-clause-special_calls c = computed.special_calls

pub returns-clause-instance_initialisation : goal.returns-clause-instance_initialisation
returns-clause-instance_initialisation c = computed.instance_initialisation

pub returns-clause-new_objects : goal.returns-clause-new_objects
returns-clause-new_objects c = computed.new_objects

pub returns-clause-array_calls : goal.returns-clause-array_calls
returns-clause-array_calls c = computed.array_calls

pub returns-clause-final_fields : goal.returns-clause-final_fields
returns-clause-final_fields c = computed.final_fields

pub returns-clause-overriding : goal.returns-clause-overriding
returns-clause-overriding c = computed.overriding

pub returns-clause-overriding_through : goal.returns-clause-overriding_through
returns-clause-overriding_through c = computed.overriding_through

pub returns-clause-library_overriding : goal.returns-clause-library_overriding
returns-clause-library_overriding c = computed.library_overriding

pub returns-clause-superinterfaces : goal.returns-clause-superinterfaces
returns-clause-superinterfaces c = computed.superinterfaces

pub returns-clause-implementing : goal.returns-clause-implementing
returns-clause-implementing c = computed.implementing

pub returns-clause-interface_bodies : goal.returns-clause-interface_bodies
returns-clause-interface_bodies c = computed.interface_bodies

pub returns-clause-flags : goal.returns-clause-flags
returns-clause-flags c = computed.flags

pub returns-clause-noted : goal.returns-clause-noted
returns-clause-noted c = computed.noted

pub returns-clause-floats : goal.returns-clause-floats
returns-clause-floats c = computed.floats

pub returns-clause-several : goal.returns-clause-several
returns-clause-several c = computed.several

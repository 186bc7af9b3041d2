-- Answers of `computed_links`: what its calls ask for, and what it promises.
use Rattle.class_pool.proofs.ComputedLinks as computed
use Rattle.class_pool.proofs.rows.computed_links.Goals as goal

pub returns-clause-supertypes : goal.returns-clause-supertypes
returns-clause-supertypes c = computed.supertypes

pub returns-clause-fields : goal.returns-clause-fields
returns-clause-fields c = computed.fields

pub returns-clause-class_methods : goal.returns-clause-class_methods
returns-clause-class_methods c = computed.class_methods

pub returns-clause-superinterface_methods : goal.returns-clause-superinterface_methods
returns-clause-superinterface_methods c = computed.superinterface_methods

pub returns-clause-interface_methods : goal.returns-clause-interface_methods
returns-clause-interface_methods c = computed.interface_methods

pub returns-clause-packages : goal.returns-clause-packages
returns-clause-packages c = computed.packages

pub returns-clause-class_access : goal.returns-clause-class_access
returns-clause-class_access c = computed.class_access

pub returns-clause-member_access : goal.returns-clause-member_access
returns-clause-member_access c = computed.member_access

pub returns-clause-protected : goal.returns-clause-protected
returns-clause-protected c = computed.protected

pub returns-clause-overriding : goal.returns-clause-overriding
returns-clause-overriding c = computed.overriding

pub returns-clause-not_overriding : goal.returns-clause-not_overriding
returns-clause-not_overriding c = computed.not_overriding

pub returns-clause-interface_selection : goal.returns-clause-interface_selection
returns-clause-interface_selection c = computed.interface_selection

pub returns-clause-special : goal.returns-clause-special
returns-clause-special c = computed.special

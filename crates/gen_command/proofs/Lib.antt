mod OneDue
